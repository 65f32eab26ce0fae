use Rattle.std.proofs.Common.{◌≡◌, ◌<◌, ◌-◌, ◌++◌, ℕ, drop, length, min, refl, sym, ap, ◌∙◌, subst}
use Rattle.std.proofs.lemmas.List.{nil_from_length}
use Rattle.regress_capi.specs.ListResults.{next_of, width, returned, none_left, next_little}
use Rattle.regress_capi.proofs.ListLemmas.{next-length, next-rest, next-taken}
use Rattle.regress_capi.proofs.match_list.MatchList.write_next.Goals as goal

pub returns-then-next-eq0 : goal.returns-then-next-eq0
returns-then-next-eq0 c =
    let old = c.args.self.now in
    record { status = none_left (nil_from_length (next_of old) (next-length old c.min-next.result (cc) ∙ c.if-next-eq0.true)) c.if-next-eq0.true (record { written = refl; rest = refl; width = refl }) }

pub returns-then-spans-next : goal.returns-then-spans-next
returns-then-spans-next c =
    let old = c.args.self.now in
    let count = sym (next-length old c.min-next.result (cc)) in
    record { status = next_little (subst (λ (k : ℕ). length c.args.spans.now < k) count c.if-spans-next.true) count (record { written = refl; rest = refl; width = refl }) }

pub returns : goal.returns
returns c =
    let old = c.args.self.now in
    let n = c.min-next.result in
    let is : n ≡ min (width old) (length old.ends.items - old.returned) = cc in
    let count = sym (next-length old n is) in
    record {
      status = returned (record {
        some = λ none. c.if-next-eq0.false (count ∙ ap length none);
        count = count;
        written = ap (λ xs. xs ++ drop n c.args.spans.now) (c.copy_from_slice.ensures.after ∙ next-taken old n is c.deref.result.now c.deref.ensures.value)
            ∙ ap (λ k. next_of old ++ drop k c.args.spans.now) count;
        rest = next-rest old n is;
        width = refl;
      });
    }
