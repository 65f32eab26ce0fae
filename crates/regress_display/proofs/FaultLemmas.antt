-- The JSON of a syntax error from what its calls return.
use Rattle.std.proofs.Common.{◌≡◌, ℕ, List, ◌++◌, codes, append_assoc}
use Rattle.std.specs.Fmt.{decimal}
use Rattle.regress_lexer.specs.declared.fault.FaultKind.{FaultKind}
use Rattle.regress_lexer.specs.FaultKinds.{name_of}
use Rattle.regress_display.specs.Fault.{fault_json, json_text, line_at, column_at}

pub fault_json-written : (kind : FaultKind) (text source : List ℕ) (position : ℕ) (words name : List ℕ) (line column : ℕ) →
    words ≡ text → name ≡ name_of kind → line ≡ line_at source position → column ≡ column_at source position →
    (codes "{\"fault\":\"" ++ json_text words) ++ (codes "\",\"kind\":\"" ++ (name ++ (codes "\",\"position\":" ++ (decimal position
    ++ (codes ",\"line\":" ++ (decimal line ++ (codes ",\"column\":" ++ (decimal column ++ codes "}"))))))))
    ≡ fault_json kind text source position
fault_json-written kind text source position words name line column same_text same_name same_line same_column =
    rw (same_text, same_name, same_line, same_column) (simp append_assoc)
