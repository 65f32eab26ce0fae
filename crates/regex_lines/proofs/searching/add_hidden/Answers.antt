use Rattle.std.proofs.Common.{◌≡◌, ◌∙◌, ℕ, ◌+◌, ◌-◌, ◌≤◌, ◌++◌, List, length, map, ap, arith, subst, sym}
use Rattle.std.proofs.lemmas.List.{length-map}
use Rattle.std.specs.Prelude.{Vec}
use Rattle.std.specs.declared.alloc.Global.{Global}
use Rattle.regex_options.specs.Plain.{job}
use Rattle.regex_lines.specs.Searched.{AreNear, IsNear, named}
use Rattle.regex_lines.proofs.WindowLemmas.{Added, all_added, none_added, one_added}
use Rattle.regex_lines.proofs.searching.add_hidden.Goals as goal

first_is : (number : ℕ) (lines : List (Vec ℕ Global)) → length (map (λ line. line.items) lines) ≤ number → number - length lines + 1 ≡ number + 1 - length lines
first_is number lines kept = omega (arith, kept, length-map lines (λ (line : Vec ℕ Global). line.items))

pub loop-index-init : goal.loop-index-init
loop-index-init c =
    let lines = c.args.window.now.hidden.items in
    let base = c.args.window.now.number - length lines in
    let to = c.args.to.now.items in
    subst
    (λ n. Added c.args.search.searcher.now.regex.now (job c.args.search.task) (named c.args.search.place) (λ (line : Vec ℕ Global). line.items) lines base to 0 n to)
    (ap (λ n. c.args.window.now.number - n) (sym (c.len.ensures ∙ c.args.window.now.hidden.ok.0)))
    (none_added c.args.search.searcher.now.regex.now (job c.args.search.task) (named c.args.search.place) (λ (line : Vec ℕ Global). line.items) lines base to)

pub overflow_add-number : goal.overflow_add-number
overflow_add-number c = omega (arith, c.loop-index.invariant.number_is, c.requires)

pub loop-index-preserved : goal.loop-index-preserved
loop-index-preserved c =
    let r = c.args.search.searcher.now.regex.now in
    let task = job c.args.search.task in
    let place = named c.args.search.place in
    let lines = c.args.window.now.hidden.items in
    let number = c.loop-index.number in
    let bytes = c.in_ok-bytes.bytes.items in
    one_added r task place (λ (line : Vec ℕ Global). line.items) lines (c.args.window.now.number - length lines) c.args.to.now.items c.loop-index.index number
    c.loop-index.to.items c.loop-index.invariant c.index.result.now bytes c.extend_from_slice.new.self.items
    (omega (arith, c.loop-index-test.true, c.len-index-end.ensures, c.args.window.now.hidden.ok.0))
    (subst (λ line. IsNear r task place (number + 1) line bytes) (c.deref.ensures.value ∙ ap (λ (line : Vec ℕ Global). line.items) c.index.ensures)
    c.in_ok-bytes.ensures.near)
    (c.in_ok-extend_from_slice.ensures.items ∙ ap (λ more. c.loop-index.to.items ++ more) c.deref-in-loop-index.ensures.value)

pub returns-clause-hidden : goal.returns-clause-hidden
returns-clause-hidden c =
    let r = c.args.search.searcher.now.regex.now in
    let task = job c.args.search.task in
    let place = named c.args.search.place in
    let lines = c.args.window.now.hidden.items in
    let base = c.args.window.now.number - length lines in
    let to = c.args.to.now.items in
    let added = all_added r task place (λ (line : Vec ℕ Global). line.items) lines base to c.loop-index.index c.loop-index.number c.loop-index.to.items
    c.loop-index.invariant (omega (arith, c.loop-index-test.false, c.len-index-end.ensures, c.args.window.now.hidden.ok.0))
    (omega (arith, c.loop-index.auto.index-end, c.len-index-end.ensures, c.args.window.now.hidden.ok.0)) in (
      added.0,
      subst (λ n. AreNear r task place n (map (λ (line : Vec ℕ Global). line.items) lines) added.0)
          (let first : base + 1 ≡ c.args.window.now.number + 1 - length lines = first_is c.args.window.now.number lines c.requires in first) added.1,
      added.2,
    )
