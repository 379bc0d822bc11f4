-- The words of a command line, out of what a program is started with.
use Rattle.std.specs.Prelude.{List, [], ◌∷◌, drop, map, Result, Ok, Err, String, string_bytes}
use Rattle.std.specs.Vec.Iter.{into_iter_items}
use Rattle.std.specs.declared.alloc.Global.{Global}
use Rattle.std.specs.declared.vec.IntoIter.{IntoIter}
use Rattle.command_line.specs.CommandLine.{Text}

-- the words: the arguments behind the first, which is the program's name; one empty word where they cannot be read
abbrev pub words_in : {E : Type 0} → Result (IntoIter (String Global) Global) E → List Text
words_in (Ok args) = map string_bytes (drop 1 (into_iter_items args))
words_in (Err fault) = [] ∷ []
