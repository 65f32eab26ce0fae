-- What is in front of what is shown of a line, as the code represents it.
use Rattle.std.specs.Prelude.{ℕ, List}
use Rattle.regex_lines.specs.Searched.{named, prefix_of}
use Rattle.regex_lines.specs.declared.prefix.Prefix.{Prefix}
use Rattle.regex_options.specs.Plain.{job}

abbrev pub text_of : Prefix → List ℕ
text_of prefix = prefix_of prefix.near (job prefix.task) (named prefix.place) prefix.number
