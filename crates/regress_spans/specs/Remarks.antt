-- What is said of parts of a pattern.
use Rattle.std.specs.Prelude.{ℕ, List, map, string_bytes}
use Rattle.regress_parse.specs.declared.span.Span.{Span}
use Rattle.regress_spans.specs.declared.remark.Remark.{Remark}

-- the span of a part, the name of a kind of remark, and a text, both as UTF-8
abbrev pub Said : Type 0
Said = Span × List ℕ × List ℕ

-- what a remark says
abbrev pub said : Remark → Said
said remark = (remark.span, remark.name.now, string_bytes remark.text)

abbrev pub said_by : List Remark → List Said
said_by = map said
