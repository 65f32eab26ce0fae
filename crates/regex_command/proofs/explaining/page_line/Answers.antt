use Rattle.std.proofs.Common.{string_bytes}
use Rattle.regex_command.proofs.explaining.page_line.Goals as goal

pub returns : goal.returns
returns c = (string_bytes c.in_ok-html.html, c.in_ok-html.ensures, c.in_ok-push_str.ensures.bytes)
