-- What the values of the code represent.
use Rattle.regress_lexer.specs.declared.cursor.Cursor.{Cursor}
use Rattle.regress_lexer.specs.declared.modifiers.Change.{Change as CodeChange}
use Rattle.regress_lexer.specs.Modifiers.{Change}
use Rattle.regress_lexer.specs.Source.{Source}

-- the source that remains at a cursor
abbrev pub source : Cursor → Source
source cursor = cursor.rest.now

-- the change of flags
abbrev pub change_of : CodeChange → Change
change_of change = record { icase = change.icase; multiline = change.multiline; dot_all = change.dot_all }
