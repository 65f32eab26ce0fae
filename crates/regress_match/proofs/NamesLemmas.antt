-- What the walk over capture groups collects.
use Rattle.std.proofs.Common.{◌∙◌, ◌++◌, [], List, map, sym, ap, append_assoc, append-nil}
use Rattle.regress_tree.specs.WellFormed.{Capture}
use Rattle.regress_match.specs.Listing.{Lists}
use Rattle.regress_match.specs.Pattern.{capture_of}
use Rattle.regress_match.specs.declared.names.Listing.{Listing}

pub adds_none : (a : Listing) → Lists a a []
adds_none a ok = (ok, sym (append-nil (map capture_of a.groups.items)))

pub adds_both : (a b c : Listing) (xs ys : List Capture) → Lists a b xs → Lists b c ys → Lists a c (xs ++ ys)
adds_both a b c xs ys first second ok =
    let later = second ok in
    let before = first later.0 in
    (before.0, later.1 ∙ ap (λ zs. zs ++ ys) before.1 ∙ append_assoc (map capture_of a.groups.items) xs ys)
