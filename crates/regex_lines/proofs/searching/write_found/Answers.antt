use Rattle.std.proofs.Common.{ap, option_map}
use Rattle.regex_options.specs.Colors.{plain_colors}
use Rattle.regex_options.specs.Plain.{job}
use Rattle.regex_lines.specs.Paint.{line_paint_of}
use Rattle.regex_lines.specs.Prefix.{text_of}
use Rattle.regex_lines.specs.Searched.{named, prefix_of}
use Rattle.regex_lines.proofs.FoundReplyLemmas.{parts, replies}
use Rattle.regex_lines.proofs.searching.write_found.Goals as goal

pub returns-in-Match-clause-reply : goal.returns-in-Match-clause-reply
returns-in-Match-clause-reply g c =
    let search = c.args.search in
    let prefix = c.prefix.ensures in
    replies search.searcher.now.regex.now c.args.line.now (job search.task) c.in-Match.selection (option_map (λ colors. plain_colors colors.now) c.in-Match.colors)
    (ap job c.in-Match.is) c.requires c.show_of.result.shown (line_paint_of c.show_of.result.paint) (text_of c.prefix.result) c.show_of.ensures.shown c.show_of.ensures.paint
    (named search.place) c.args.number (λ i. prefix_of (prefix.near i) (job (prefix.task i)) (named (prefix.place i)) (prefix.number i))
    (g.W.Write.contents c.args.out.now) (g.W.Write.contents c.write_matches.new.out) c.write_matches.result c.write_matches.ensures.found

pub returns-in-Match-clause-first : goal.returns-in-Match-clause-first
returns-in-Match-clause-first g c =
    let search = c.args.search in
    let prefix = c.prefix.ensures in
    parts search.searcher.now.regex.now c.args.line.now (job search.task) c.in-Match.selection (option_map (λ colors. plain_colors colors.now) c.in-Match.colors)
    (ap job c.in-Match.is) c.requires c.show_of.result.shown (line_paint_of c.show_of.result.paint) (text_of c.prefix.result) c.show_of.ensures.shown c.show_of.ensures.paint
    (named search.place) c.args.number (λ i. prefix_of (prefix.near i) (job (prefix.task i)) (named (prefix.place i)) (prefix.number i))
    (g.W.Write.contents c.args.out.now) (g.W.Write.contents c.write_matches.new.out) c.write_matches.result c.write_matches.ensures.first
