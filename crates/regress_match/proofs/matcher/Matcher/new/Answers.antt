use Rattle.std.proofs.Common.{◌≡◌, ◌≤◌, ◌&&◌, min, nat_le, ap, ◌∙◌, arith}
use Rattle.regress_tree.specs.Tree.{tree}
use Rattle.regress_program.specs.Compiled.{total}
use Rattle.regress_program.specs.Size.{is_bounded, program_size}
use Rattle.regress_code.specs.Code.{code_counts, code_groups, code_routines, code_tidy}
use Rattle.regress_match.specs.Matcher.{find_factor_with}
use Rattle.regress_match.proofs.LinearLemmas.{factor_tree, find_linear_tree, nonlinear_tree, size_within, within_limits}
use Rattle.regress_match.proofs.lemmas.Costs.{has_costs}
use Rattle.regress_match.proofs.matcher.Matcher.new.Goals as goal

pub returns-clause-costs : goal.returns-clause-costs
returns-clause-costs c = λ text. has_costs _ text

pub returns-clause-linear : goal.returns-clause-linear
returns-clause-linear c =
    let made = c.in_ok-code.ensures in
    let code = c.in_ok-code.code in
    let routines = code_routines code in
    let t = tree c.args.regex.node in
    let most = c.args.limits.instructions in
    let linear = c.args.limits.linear_instructions in
    let counted : min (total routines) 18446744073709551615 ≡ total routines = omega (arith, made.most) in
    let fits : c.is_within-within.result ≡ nat_le (program_size t) (min linear most) =
    c.is_within-within.ensures ∙ ap (λ n. is_bounded (code_counts code) && nat_le n linear) counted
    ∙ within_limits most linear t (code_counts code) (total routines) made.counts made.size in
    let size : program_size t ≤ min linear most → total routines ≡ program_size t =
    λ le. size_within most linear t (total routines) made.size (omega (arith, le)) in
    factor_tree (code_groups code) routines t (min linear most) c.is_within-within.result made.groups fits size made.linear made.plain

pub returns-clause-nonlinear : goal.returns-clause-nonlinear
returns-clause-nonlinear c =
    let made = c.in_ok-code.ensures in
    let code = c.in_ok-code.code in
    let routines = code_routines code in
    let t = tree c.args.regex.node in
    let most = c.args.limits.instructions in
    let linear = c.args.limits.linear_instructions in
    let counted : min (total routines) 18446744073709551615 ≡ total routines = omega (arith, made.most) in
    let fits : c.is_within-within.result ≡ nat_le (program_size t) (min linear most) =
    c.is_within-within.ensures ∙ ap (λ n. is_bounded (code_counts code) && nat_le n linear) counted
    ∙ within_limits most linear t (code_counts code) (total routines) made.counts made.size in
    let size : program_size t ≤ min linear most → total routines ≡ program_size t =
    λ le. size_within most linear t (total routines) made.size (omega (arith, le)) in
    nonlinear_tree (code_groups code) routines t (min linear most) c.is_within-within.result made.groups fits size made.linear made.plain

pub returns-clause-find_linear : goal.returns-clause-find_linear
returns-clause-find_linear c =
    let made = c.in_ok-code.ensures in
    let code = c.in_ok-code.code in
    let routines = code_routines code in
    let t = tree c.args.regex.node in
    let most = c.args.limits.instructions in
    let linear = c.args.limits.linear_instructions in
    let counted : min (total routines) 18446744073709551615 ≡ total routines = omega (arith, made.most) in
    let fits : c.is_within-within.result ≡ nat_le (program_size t) (min linear most) =
    c.is_within-within.ensures ∙ ap (λ n. is_bounded (code_counts code) && nat_le n linear) counted
    ∙ within_limits most linear t (code_counts code) (total routines) made.counts made.size in
    let size : program_size t ≤ min linear most → total routines ≡ program_size t =
    λ le. size_within most linear t (total routines) made.size (omega (arith, le)) in
    let groups = code_groups code in
    let tidy = code_tidy code in
    record {
      routines = routines;
      pattern = made.pattern;
      size = size;
      linear = made.linear;
      plain = made.plain;
      tidy = tidy;
      tidy_if = made.tidy;
      is = ap (λ b. find_factor_with groups tidy routines b) fits
          ∙ ap (λ k. find_factor_with k tidy routines (nat_le (program_size t) (min linear most))) made.groups;
      exactly = λ well.
          find_linear_tree groups routines t (min linear most) c.is_within-within.result made.groups fits size made.linear made.plain tidy (made.tidy well);
    }
