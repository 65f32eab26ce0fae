use Rattle.std.proofs.Common.{◌≡◌, ◌≢◌, ◌+◌, All, false, length, map, subst, sym, true}
use Rattle.std.proofs.lemmas.Bool.{eq-eqb}
use Rattle.std.specs.Prelude.{string_bytes}
use Rattle.regex_options.specs.Plain.{name_glob}
use Rattle.regex_lines.specs.Searched.{is_standard}
use Rattle.regex_lines.specs.Unread.{unread_path}
use Rattle.regex_lines.specs.Walk.{IsNamed, IsSelectedBelow, filter}
use Rattle.regex_lines.specs.declared.walk.Found.{Found}
use Rattle.regex_lines.proofs.WalkLemmas.{SoFar, all_found, one_below, one_named, other}
use Rattle.regex_lines.proofs.walk.find_files.Goals.{then-list+then-is_directory+in_ok-add_below, else-list+in_ok-add_named}
use Rattle.regex_lines.proofs.walk.find_files.Goals as goal

pub loop-name-preserved : goal.loop-name-preserved
loop-name-preserved g c =
    let recursive = c.args.list.recursive in
    let filters = map filter c.in_ok-filters.filters.items in
    let names = c.args.list.names.now in
    let i = c.loop-name.name-index in
    let before = c.loop-name.found in
    let files = map string_bytes before.files.items in
    let unread = map unread_path before.unread.items in
    let name = c.name-item.result in
    let Next = λ (f : Found). SoFar recursive filters names (i + 1) (map string_bytes f.files.items) f.several (map unread_path f.unread.items) in
    elim c.if-list.branch [
      | then-list+then-is_directory+in_ok-add_below w ↦
          let found = w.add_below.new.found in
          let added = w.in_ok-add_below.ensures.files in
          let after = map string_bytes found.files.items in
          let some = map unread_path found.unread.items in
          let is_directory : is_standard (string_bytes name) ≡ true → w.is_directory.result ≡ false =
          subst (λ path. is_standard path ≡ true → w.is_directory.result ≡ false) w.as_str.ensures.value w.is_directory.ensures in
          let not_standard : is_standard (string_bytes name) ≡ false =
          other (is_standard (string_bytes name)) w.is_directory.result is_directory w.if-is_directory.true in
          let below : All (IsSelectedBelow filters (string_bytes name)) added.0 =
          subst (λ root. All (IsSelectedBelow filters root) added.0) w.as_str-then-is_directory.ensures.value
          (subst (λ given. All (IsSelectedBelow (map filter given) w.as_str-then-is_directory.result.now) added.0)
          w.deref-then-is_directory.ensures.value added.1) in
          subst Next (sym w.found-is)
          (subst (λ several. SoFar recursive filters names (i + 1) after several some) (sym w.in_ok-add_below.ensures.several)
          (one_below recursive filters names i files before.several unread c.loop-name.invariant name c.loop-name-test.true c.name-item.is after added.0 added.2
          w.if-list.true not_standard below some))
      | else-list+in_ok-add_named w ↦
          let added = w.in_ok-add_named.ensures in
          let after = map string_bytes w.add_named.new.to.items in
          let named : IsNamed filters (string_bytes name) added.0 =
          subst (λ name. IsNamed filters name added.0) w.as_str-else-list.ensures.value
          (subst (λ given. IsNamed (map filter given) w.as_str-else-list.result.now added.0) w.deref-else-list.ensures.value added.1) in
          subst Next (sym w.found-is)
          (one_named recursive filters names i files before.several unread c.loop-name.invariant name c.loop-name-test.true c.name-item.is after added.0 added.2
          named)
    ]

pub returns : goal.returns
returns g c =
    let names = c.args.list.names.now in
    let found = c.loop-name.found in
    let some : length names ≢ 0 = λ none. cc (eq-eqb (length names) 0 none, c.is_empty.ensures, c.if-is_empty.false) in
    all_found c.args.list.recursive (map filter c.in_ok-filters.filters.items) names c.loop-name.name-index (map string_bytes found.files.items) found.several
    (map unread_path found.unread.items) c.loop-name.invariant (map name_glob c.args.list.globs.now) c.in_ok-filters.ensures c.loop-name-test.false some
