use Rattle.std.proofs.Common.{◌++◌, refl, codes, string_bytes}
use Rattle.regress_tree.specs.Tree.{tree}
use Rattle.regress_json.specs.Json.{spanned_json_of}
use Rattle.regress_display.specs.declared.request.Format.TheVariants.{Json, Svg}
use Rattle.regress_display.proofs.ShownLemmas.{shows_one}
use Rattle.regress_display.proofs.trees.write_tree.Goals as goal

pub returns-in-Json-clause-written : goal.returns-in-Json-clause-written
returns-in-Json-clause-written g c =
    let contents = g.W.Write.contents in
    let regex = c.args.regex.now in
    let spans = c.args.written.now.spans.now in
    rw c.in-Json.is
    (shows_one Json regex.flags (tree regex.node) spans (spanned_json_of regex.flags (tree regex.node) spans ++ codes "\n") c.args.after.now
    c.write_out-in-Json.result (contents c.args.out.now) (contents c.write_out-in-Json.new.out) refl c.write_out-in-Json.ensures.written)

pub returns-in_ok-picture-in-Svg-clause-written : goal.returns-in_ok-picture-in-Svg-clause-written
returns-in_ok-picture-in-Svg-clause-written g c =
    let contents = g.W.Write.contents in
    let regex = c.args.regex.now in
    let picture = string_bytes c.in_ok-picture-in-Svg.picture in
    rw c.in-Svg.is
    (shows_one Svg regex.flags (tree regex.node) c.args.written.now.spans.now (picture ++ codes "\n") c.args.after.now
    c.write_out-in-Svg.result (contents c.args.out.now) (contents c.write_out-in-Svg.new.out) (picture, c.in_ok-picture-in-Svg.ensures, refl)
    c.write_out-in-Svg.ensures.written)
