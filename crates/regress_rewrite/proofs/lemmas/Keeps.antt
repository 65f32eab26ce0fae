-- What the law requires, composed: of two changes in sequence, and of a part in the whole.
use Rattle.std.proofs.Common.{◌≡◌, ◌∙◌, refl, sym, le_refl, le_trans, append-nil, arith}
use Rattle.std.specs.Prelude.{encode_utf8_all}
use Rattle.regress_tree.specs.Reading.{Direction}
use Rattle.regress_tree.specs.Tree.{Tree, leaf, empty, cat, no_trees, more_trees}
use Rattle.regress_tree.specs.WellFormed.{captures}
use Rattle.regress_tree.specs.Shapes.{is_simplified_away}
use Rattle.regress_tree.proofs.lemmas.Alike.{Alike-refl, Alike-trans, Alike-from_same}
use Rattle.regress_tree.proofs.lemmas.Outcomes.{flat_map-stay}
use Rattle.regress_tree.proofs.lemmas.Lists.{IsAllowed-from_last}
use Rattle.regress_tree.proofs.lemmas.TreeContexts.{TreeContext, among, put, direction_at, Alike-put, IsAllowed-put, captures-put, account-put, IsAllowed-part, LacksShape-put, on_leaf-put, account-part, LacksShape-whole}
use Rattle.regress_rewrite.specs.Law.{IsPart, MeansTheSame, IsAllowedWhere, Keeps}

pub Keeps-refl : (d : Direction) (t : Tree) → Keeps d t t
Keeps-refl d t = record {
  meaning = λ setting text is_text. Alike-refl _;
  occurs = λ n p m. m;
  captures = refl;
  account = le_refl _;
  brackets = λ lacks. lacks;
}

pub Keeps-trans : (d : Direction) {t u v : Tree} → Keeps d t u → Keeps d u v → Keeps d t v
Keeps-trans d a b = record {
  meaning = λ setting text is_text. Alike-trans (a.meaning setting text is_text) (b.meaning setting text is_text);
  occurs = λ n p m. b.occurs n p (a.occurs n p m);
  captures = b.captures ∙ a.captures;
  account = le_trans b.account a.account;
  brackets = λ lacks. b.brackets (a.brackets lacks);
}

pub Keeps-put : (p : TreeContext) (d : Direction) {t u : Tree} → Keeps (direction_at p d) t u → Keeps d (put p t) (put p u)
Keeps-put p d a = record {
  meaning = λ setting text is_text. Alike-put setting (encode_utf8_all text) p d _ _ (a.meaning setting text is_text);
  occurs = IsAllowed-put _ _ a.occurs a.captures p;
  captures = captures-put p _ _ a.captures;
  account = account-put p _ _ a.account;
  brackets = LacksShape-put is_simplified_away p _ _ (on_leaf-put _ p _ ∙ sym (on_leaf-put _ p _)) a.brackets;
}

-- a part may replace the whole
pub Keeps-part : (p : TreeContext) (d : Direction) (t : Tree) → MeansTheSame d (put p t) t → IsAllowedWhere (put p t) t →
    captures t ≡ captures (put p t) → Keeps d (put p t) t
Keeps-part p d t meaning occurs captures = record {
  meaning = meaning;
  occurs = occurs;
  captures = captures;
  account = account-part p t;
  brackets = LacksShape-whole is_simplified_away p t;
}

-- what may replace a `Cat` of no part, and of one
pub Keeps-no_part : (d : Direction) → Keeps d (cat no_trees) (leaf empty)
Keeps-no_part d = record {
  meaning = λ setting text is_text. Alike-from_same (λ s. refl);
  occurs = λ n p m. m.0;
  captures = refl;
  account = omega arith;
  brackets = λ lacks. refl;
}

pub Keeps-one_part : (d : Direction) (t : Tree) → Keeps d (cat (more_trees t no_trees)) t
Keeps-one_part d t = Keeps-part (among no_trees no_trees) d t (λ setting text is_text. Alike-from_same (λ s. flat_map-stay _))
    (λ n p m. IsAllowed-from_last n t p m.0 m.1) (sym (append-nil (captures t)))

pub IsPart-kept : (d : Direction) {t u : Tree} → Keeps d t u → IsPart t → IsPart u
IsPart-kept d keeps part = (part.0, part.1, keeps.occurs part.0 part.1 part.2)

pub IsPart-part : (p : TreeContext) (t : Tree) → IsPart (put p t) → IsPart t
IsPart-part p t part =
    let inner = IsAllowed-part p t part.0 part.1 part.2 in
    (part.0, inner.0, inner.1)
