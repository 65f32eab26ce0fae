-- The backtrack points and the groups at the start, as the stack changes.
use Rattle.std.proofs.Common.{◌≡◌, ℕ, zero, suc, ◌+◌, ◌-◌, ◌<◌, ◌≤◌, arith, List, [], ◌∷◌, ◌++◌, length, length-append, drop, reverse, Option, Some, refl, sym, ap, ap₂, ◌∙◌, get_or, set, min, max, true}
use Rattle.std.proofs.Math.Seq.{set-append_seam}
use Rattle.std.proofs.lemmas.List.{reverse-append}
use Rattle.std.proofs.lemmas.List.Elements.{filter-append}
use Rattle.regress_tree.specs.Steps.{CaptureSpan}
use Rattle.regress_program.specs.Program.{ended, goto}
use Rattle.regress_backtrack.specs.declared.machine.Place.{Place}
use Rattle.regress_backtrack.specs.declared.machine.Entry.{Entry}
use Rattle.regress_backtrack.specs.declared.machine.Entry.TheVariants as entries
use Rattle.regress_backtrack.specs.declared.machine.Machine.{Machine}
use Rattle.regress_backtrack.specs.Machine.{Groups, at, range_points, undone, point_of, points_of, before_all, groups_of, points, rewound, Kept, Chosen, Ranged, Shortened, Closed, closed_at, is_change, changes_of}

-- the last entry comes first
last-first : (es : List Entry) (e : Entry) → reverse (es ++ e ∷ []) ≡ e ∷ reverse es
last-first es e = reverse-append es (e ∷ [])

-- A machine with one more entry, which undoes what has changed.
pub points-more : (m m' : Machine) (e : Entry) → m'.stack.entries.items ≡ m.stack.entries.items ++ e ∷ [] → undone e (groups_of m') ≡ groups_of m →
    points m' ≡ point_of e (groups_of m') ++ points m
unfolding points
points-more m m' e grown back =
    ap (λ es. points_of (reverse es) (groups_of m')) grown
    ∙ ap (λ es. points_of es (groups_of m')) (last-first m.stack.entries.items e)
    ∙ ap (λ g. point_of e (groups_of m') ++ points_of (reverse m.stack.entries.items) g) back

pub rewound-more : (m m' : Machine) (e : Entry) → m'.stack.entries.items ≡ m.stack.entries.items ++ e ∷ [] → undone e (groups_of m') ≡ groups_of m →
    rewound m' ≡ rewound m
unfolding rewound
rewound-more m m' e grown back =
    ap (λ es. before_all (reverse es) (groups_of m')) grown
    ∙ ap (λ es. before_all es (groups_of m')) (last-first m.stack.entries.items e)
    ∙ ap (before_all (reverse m.stack.entries.items)) back

pub Kept-refl : (m m' : Machine) → m'.stack.entries.items ≡ m.stack.entries.items → groups_of m' ≡ groups_of m → Kept m m'
unfolding points rewound
Kept-refl m m' entries groups = record {
  points = ap₂ (λ es g. points_of (reverse es) g) entries groups;
  rewound = ap₂ (λ es g. before_all (reverse es) g) entries groups;
}

pub Kept-trans : (a b c : Machine) → Kept a b → Kept b c → Kept a c
Kept-trans a b c one two = record { points = two.points ∙ one.points; rewound = two.rewound ∙ one.rewound }

pub groups-same : (c c' : List (Option CaptureSpan)) (b b' : List ℕ) → c' ≡ c → b' ≡ b →
    (let g' : Groups = record { captures = c'; begins = b' } in let g : Groups = record { captures = c; begins = b } in g' ≡ g)
groups-same c c' b b' ec eb = ap₂ (λ x y. record { captures = x; begins = y }) ec eb

pub chosen : (m m' : Machine) (p : Place) → m'.stack.entries.items ≡ m.stack.entries.items ++ entries.Points p p.position ∷ [] → m'.captures.items ≡ m.captures.items →
    m'.stack.begins.items ≡ m.stack.begins.items → Chosen p m m'
chosen m m' p grown captures begins =
    let same : groups_of m' ≡ groups_of m = groups-same _ _ _ _ captures (ap reverse begins) in
    record {
      groups = same;
      points = points-more m m' (entries.Points p p.position) grown same ∙ ap (λ n. range_points p n (groups_of m') ++ points m) (none p.position)
          ∙ ap (λ g. at p g ∷ points m) same;
      rewound = rewound-more m m' (entries.Points p p.position) grown same;
    }
  where
    none : (n : ℕ) → n - n ≡ zero
    none n = omega arith

-- several points at once
pub ranged : (m m' : Machine) (p : Place) (last more : ℕ) → last ≡ p.position + more → m'.stack.entries.items ≡ m.stack.entries.items ++ entries.Points p last ∷ [] →
    m'.captures.items ≡ m.captures.items → m'.stack.begins.items ≡ m.stack.begins.items → Ranged p more m m'
ranged m m' p last more is grown captures begins =
    let same : groups_of m' ≡ groups_of m = groups-same _ _ _ _ captures (ap reverse begins) in
    let count : last - p.position ≡ more = omega (arith, is) in
    record {
      groups = same;
      points = points-more m m' (entries.Points p last) grown same
          ∙ ap₂ (λ n g. range_points p n g ++ points m) count same;
      rewound = rewound-more m m' (entries.Points p last) grown same;
    }

set-back : {A : Type 0} (xs : List A) (i : ℕ) (v w : A) → w ≡ get_or xs i w → set (set xs i v) i w ≡ xs
set-back [] i v w is = refl
set-back (x ∷ xs) zero v w is = ap (λ y. y ∷ xs) is
set-back (x ∷ xs) (suc i) v w is = ap (λ ys. x ∷ ys) (set-back xs i v w is)

-- a capture that is set, with the change on the stack
pub kept-set : (m m' : Machine) (group : ℕ) (before span : Option CaptureSpan) → before ≡ get_or m.captures.items group before →
    m'.stack.entries.items ≡ m.stack.entries.items ++ entries.Capture group before ∷ [] → m'.captures.items ≡ set m.captures.items group span →
    m'.stack.begins.items ≡ m.stack.begins.items → Kept m m'
kept-set m m' group before span was grown captures begins =
    let back : undone (entries.Capture group before) (groups_of m') ≡ groups_of m =
    groups-same _ _ _ _ (ap (λ cs. set cs group before) captures ∙ set-back m.captures.items group span before was) (ap reverse begins) in
    record {
      points = points-more m m' (entries.Capture group before) grown back;
      rewound = rewound-more m m' (entries.Capture group before) grown back;
    }

-- a group that has begun
pub kept-begun : (m m' : Machine) (position : ℕ) → m'.stack.entries.items ≡ m.stack.entries.items ++ entries.Began ∷ [] →
    m'.captures.items ≡ m.captures.items → m'.stack.begins.items ≡ m.stack.begins.items ++ position ∷ [] → Kept m m'
kept-begun m m' position grown captures begins =
    let back : undone entries.Began (groups_of m') ≡ groups_of m =
    groups-same _ _ _ _ captures (ap (λ xs. drop 1 (reverse xs)) begins ∙ ap (drop 1) (reverse-append m.stack.begins.items (position ∷ []))) in
    record {
      points = points-more m m' entries.Began grown back;
      rewound = rewound-more m m' entries.Began grown back;
    }

-- a group that has ended
pub kept-ended : (m m' : Machine) (from : ℕ) → m'.stack.entries.items ≡ m.stack.entries.items ++ entries.Ended from ∷ [] →
    m'.captures.items ≡ m.captures.items → m.stack.begins.items ≡ m'.stack.begins.items ++ from ∷ [] → Kept m m'
kept-ended m m' from grown captures begins =
    let back : undone (entries.Ended from) (groups_of m') ≡ groups_of m =
    groups-same _ _ _ _ captures (sym (ap reverse begins ∙ reverse-append m'.stack.begins.items (from ∷ []))) in
    record {
      points = points-more m m' (entries.Ended from) grown back;
      rewound = rewound-more m m' (entries.Ended from) grown back;
    }

-- ---- backtracking

pub no_point : (e : Entry) (g : Groups) → ((p : Place) (last : ℕ) → e ≡ entries.Points p last → ⊥) → point_of e g ≡ []
no_point (entries.Points p last) g not = absurd (not p last refl)
no_point (entries.Capture group before) g not = refl
no_point entries.Began g not = refl
no_point (entries.Ended from) g not = refl

-- the last entry is removed, and what it records is undone
pub popped : (m m' : Machine) (e : Entry) → m.stack.entries.items ≡ m'.stack.entries.items ++ e ∷ [] → groups_of m' ≡ undone e (groups_of m) →
    ((p : Place) (last : ℕ) → e ≡ entries.Points p last → ⊥) → Kept m m'
popped m m' e is back not = record {
  points = sym (points-more m' m e is (sym back) ∙ ap (λ xs. xs ++ points m') (no_point e (groups_of m) not));
  rewound = sym (rewound-more m' m e is (sym back));
}

pub popped-point : (m m' : Machine) (p : Place) (last : ℕ) → last ≤ p.position → m.stack.entries.items ≡ m'.stack.entries.items ++ entries.Points p last ∷ [] →
    groups_of m' ≡ groups_of m → (points m ≡ at p (groups_of m') ∷ points m') × (rewound m' ≡ rewound m)
popped-point m m' p last le is same =
    let none : last - p.position ≡ zero = omega (arith, le) in (
      points-more m' m (entries.Points p last) is (sym same) ∙ ap₂ (λ n g. range_points p n g ++ points m') none (sym same),
      sym (rewound-more m' m (entries.Points p last) is (sym same)),
    )

-- The last of several points is removed: the stack `base` is what is below them.
pub popped-last : (m m' : Machine) (base : List Entry) (p : Place) (last : ℕ) → p.position < last → m.stack.entries.items ≡ base ++ entries.Points p last ∷ [] →
    m'.stack.entries.items ≡ base ++ entries.Points p (last - 1) ∷ [] → groups_of m' ≡ groups_of m →
    (points m ≡ at (record { pc = p.pc; moved = true; position = last }) (groups_of m') ∷ points m') × (rewound m' ≡ rewound m)
unfolding points rewound
popped-last m m' base p last lt is is' same =
    let n = last - 1 - p.position in
    let count : last - p.position ≡ suc n = omega (arith, lt) in
    let count' : last - 1 - p.position ≡ n = refl in
    let end : p.position + suc n ≡ last = omega (arith, lt) in
    let order : reverse m.stack.entries.items ≡ entries.Points p last ∷ reverse base = ap reverse is ∙ last-first base (entries.Points p last) in
    let order' : reverse m'.stack.entries.items ≡ entries.Points p (last - 1) ∷ reverse base =
    ap reverse is' ∙ last-first base (entries.Points p (last - 1)) in (
      ap₂ points_of order (sym same)
          ∙ ap (λ k. range_points p k (groups_of m') ++ points_of (reverse base) (groups_of m')) count
          ∙ ap (λ k. at (record { pc = p.pc; moved = true; position = k }) (groups_of m')
          ∷ (range_points p n (groups_of m') ++ points_of (reverse base) (groups_of m'))) end
          ∙ ap (λ es. at (record { pc = p.pc; moved = true; position = last }) (groups_of m') ∷ points_of es (groups_of m')) (sym order'),
      ap₂ before_all order' same ∙ sym (ap (λ es. before_all es (groups_of m)) order),
    )

pub points-none : (m : Machine) → m.stack.entries.items ≡ [] → points m ≡ []
unfolding points
points-none m is = ap (λ es. points_of (reverse es) (groups_of m)) is

pub rewound-none : (m : Machine) → m.stack.entries.items ≡ [] → rewound m ≡ groups_of m
unfolding rewound
rewound-none m is = ap (λ es. before_all (reverse es) (groups_of m)) is

-- ---- lookarounds

one_reversed : (e : Entry) → reverse (changes_of (e ∷ [])) ≡ changes_of (e ∷ [])
one_reversed (entries.Points p last) = refl
one_reversed (entries.Capture group before) = refl
one_reversed entries.Began = refl
one_reversed (entries.Ended from) = refl

changes-reverse : (es : List Entry) → reverse (changes_of es) ≡ changes_of (reverse es)
changes-reverse [] = refl
changes-reverse (e ∷ es) =
    ap reverse (filter-append is_change (e ∷ []) es)
    ∙ reverse-append (changes_of (e ∷ [])) (changes_of es)
    ∙ ap₂ ◌++◌ (changes-reverse es) (one_reversed e)
    ∙ sym (filter-append is_change (reverse es) (e ∷ []))
    ∙ ap changes_of (sym (reverse-append (e ∷ []) es))

-- the groups before, with other groups open
abbrev opened : List ℕ → Groups → Groups
opened begins g = record { captures = g.captures; begins = begins }

changed-points : (begins : List ℕ) (es rest : List Entry) (g : Groups) →
    points_of (changes_of es ++ rest) (opened begins g) ≡ points_of rest (opened begins (before_all es g))
changed-points begins [] rest g = refl
changed-points begins (entries.Points p last ∷ es) rest g = changed-points begins es rest g
changed-points begins (entries.Capture group before ∷ es) rest g = changed-points begins es rest (undone (entries.Capture group before) g)
changed-points begins (entries.Began ∷ es) rest g = changed-points begins es rest (undone entries.Began g)
changed-points begins (entries.Ended from ∷ es) rest g = changed-points begins es rest (undone (entries.Ended from) g)

changed-before : (begins : List ℕ) (es rest : List Entry) (g : Groups) →
    before_all (changes_of es ++ rest) (opened begins g) ≡ before_all rest (opened begins (before_all es g))
changed-before begins [] rest g = refl
changed-before begins (entries.Points p last ∷ es) rest g = changed-before begins es rest g
changed-before begins (entries.Capture group before ∷ es) rest g = changed-before begins es rest (undone (entries.Capture group before) g)
changed-before begins (entries.Began ∷ es) rest g = changed-before begins es rest (undone entries.Began g)
changed-before begins (entries.Ended from ∷ es) rest g = changed-before begins es rest (undone (entries.Ended from) g)

-- After a lookaround the backtrack points around it are the same, although captures may have changed.
pub left-lookaround : (m inner m' : Machine) → (rewound inner).captures ≡ m.captures.items →
    m'.stack.entries.items ≡ m.stack.entries.items ++ changes_of inner.stack.entries.items → m'.stack.begins.items ≡ m.stack.begins.items →
    m'.captures.items ≡ inner.captures.items → Kept m m'
unfolding points rewound
left-lookaround m inner m' back grown begins captures =
    let es = inner.stack.entries.items in
    let before = m.stack.entries.items in
    let order : reverse m'.stack.entries.items ≡ changes_of (reverse es) ++ reverse before =
    ap reverse grown ∙ reverse-append before (changes_of es) ∙ ap (λ xs. xs ++ reverse before) (changes-reverse es) in
    let now : groups_of m' ≡ opened (reverse m.stack.begins.items) (groups_of inner) = groups-same _ _ _ _ captures (ap reverse begins) in
    let then' : opened (reverse m.stack.begins.items) (before_all (reverse es) (groups_of inner)) ≡ groups_of m =
    ap (λ cs. record { captures = cs; begins = reverse m.stack.begins.items }) back in
    record {
      points = ap₂ points_of order now ∙ changed-points (reverse m.stack.begins.items) (reverse es) (reverse before) (groups_of inner)
          ∙ ap (points_of (reverse before)) then';
      rewound = ap₂ before_all order now ∙ changed-before (reverse m.stack.begins.items) (reverse es) (reverse before) (groups_of inner)
          ∙ ap (before_all (reverse before)) then';
    }

-- ---- the end of a group

-- A group ends: first the innermost one is closed, and then its capture is set.
pub group-ended : (id next : ℕ) (p : Place) (g g1 g2 : Groups) (from : ℕ) → Closed p.position g g1 from →
    g2.captures ≡ set g1.captures id (Some (min from p.position, max from p.position)) → g2.begins ≡ g1.begins →
    goto next (at p g2) ≡ ended id next (at p g) g.begins
group-ended id next p g g1 g2 from closed captures begins = by g.begins closed.begins closed.at_start
  where
    now : (k : ℕ) → from ≡ k → g2.captures ≡ set g.captures id (Some (min k p.position, max k p.position))
    now k is = captures ∙ ap₂ (λ cs f. set cs id (Some (min f p.position, max f p.position))) closed.captures is

    by : (bs : List ℕ) → g1.begins ≡ drop 1 bs → from ≡ closed_at p.position bs → goto next (at p g2) ≡ ended id next (at p (record g { begins = bs })) bs
    by [] rest is =
        ap₂ (λ cs bs. record { pc = next; moved = p.moved; state = record { position = p.position; captures = cs }; begins = bs }) (now p.position is)
        (begins ∙ rest)
    by (k ∷ bs) rest is =
        ap₂ (λ cs xs. record { pc = next; moved = p.moved; state = record { position = p.position; captures = cs }; begins = xs }) (now k is) (begins ∙ rest)

-- ---- ranges of backtrack points

points-of-range : (m : Machine) (base : List Entry) (p : Place) (more : ℕ) → m.stack.entries.items ≡ base ++ entries.Points p (p.position + more) ∷ [] →
    points m ≡ range_points p more (groups_of m) ++ points_of (reverse base) (groups_of m)
unfolding points
points-of-range m base p more is =
    ap (λ es. points_of (reverse es) (groups_of m)) is
    ∙ ap (λ es. points_of es (groups_of m)) (last-first base (entries.Points p (p.position + more)))
    ∙ ap (λ n. range_points p n (groups_of m) ++ points_of (reverse base) (groups_of m)) (count p.position)
  where
    count : (n : ℕ) → n + more - n ≡ more
    count n = omega arith

rewound-of-range : (m : Machine) (base : List Entry) (p : Place) (last : ℕ) → m.stack.entries.items ≡ base ++ entries.Points p last ∷ [] →
    rewound m ≡ before_all (reverse base) (groups_of m)
unfolding rewound
rewound-of-range m base p last is =
    ap (λ es. before_all (reverse es) (groups_of m)) is
    ∙ ap (λ es. before_all es (groups_of m)) (last-first base (entries.Points p last))

-- The last of several points are removed: the stack `base` is what is below them.
pub shortened : (m m' : Machine) (base : List Entry) (p : Place) (more kept : ℕ) →
    m.stack.entries.items ≡ base ++ entries.Points p (p.position + more) ∷ [] → m'.stack.entries.items ≡ base ++ entries.Points p (p.position + kept) ∷ [] →
    groups_of m' ≡ groups_of m → Shortened p more kept m m'
shortened m m' base p more kept is is' same = record {
  groups = same;
  rewound = rewound-of-range m' base p (p.position + kept) is' ∙ ap (before_all (reverse base)) same ∙ sym (rewound-of-range m base p (p.position + more) is);
  others = points_of (reverse base) (groups_of m);
  all = points-of-range m base p more is;
  fewer = points-of-range m' base p kept is' ∙ ap (λ g. range_points p kept g ++ points_of (reverse base) g) same;
}

-- The last element is replaced.
pub set_last : {A : Type 0} (xs ys : List A) (y z : A) (n : ℕ) → xs ≡ ys ++ y ∷ [] → n ≡ length xs → set xs (n - 1) z ≡ ys ++ z ∷ []
set_last xs ys y z n is count =
    let at_end : n - 1 ≡ length ys = omega (arith, count, ap length is, length-append ys (y ∷ [])) in
    ap₂ (λ l i. set l i z) is at_end ∙ set-append_seam ys y [] z
