use Rattle.std.proofs.Common.{◌||◌, ◌++◌, max, ap, ap₂, ◌∙◌}
use Rattle.std.proofs.lemmas.List.{map-append}
use Rattle.regress_classes.specs.ClassViews.{strings_of}
use Rattle.regress_classes.proofs.class_sets.others.Others.join.Goals as goal

pub returns : goal.returns
returns c = λ a b h k. record {
  strings = ap strings_of c.in_ok-append.ensures.items
      ∙ map-append (λ string. string.items) c.args.self.now.strings.items c.args.other.strings.items
      ∙ ap₂ (λ xs ys. xs ++ ys) h.strings k.strings;
  has_empty = ap₂ (λ x y. x || y) h.has_empty k.has_empty;
  may_have_strings = ap₂ (λ x y. x || y) h.may_have_strings k.may_have_strings;
  nesting = c.max-self.ensures ∙ ap₂ max h.nesting k.nesting;
}
