-- The text and the status of each answer.
use Rattle.std.specs.Prelude.{ℕ, List, [], ◌++◌, codes}
use Rattle.std.specs.Fmt.{decimal}
use Rattle.peano_keys.specs.declared.dim.Dim.{Dim}
use Rattle.grid_file.specs.Places.{place_text}
use Rattle.field_report.specs.Block.{key_text}
use Rattle.peano_run.specs.declared.answer.Answer.{Answer}
use Rattle.peano_run.specs.declared.answer.Answer.TheVariants.{Done, Usage, ReadFault, TooLong, Malformed, Limit, Crowded, Overflow, WriteFault, NoMemory}
use Rattle.peano_run.specs.declared.answer.LimitKind.{LimitKind}
use Rattle.peano_run.specs.declared.answer.LimitKind.TheVariants.{Cells, Lines}

-- what a limit counts
abbrev pub counted_by : LimitKind → List ℕ
counted_by Cells = codes "cells "
counted_by Lines = codes "lines "

-- the text of an answer on the error stream, each a line; none where the run is done. A leaf is printed as in the report
abbrev pub text_of : Dim → Answer → List ℕ
text_of dim Done = []
text_of dim Usage =
    codes "usage: peano [--trees N] [--workers N] [--show fields|traffic|all] [--demo N]\n"
text_of dim ReadFault = codes "read fault\n"
text_of dim TooLong = codes "input longer than 1048576 bytes\n"
text_of dim (Malformed code place) = codes "malformed " ++ decimal code ++ codes " at "
    ++ place_text place ++ codes "\n"
text_of dim (Limit which number) = codes "limit " ++ counted_by which ++ decimal number
    ++ codes "\n"
text_of dim (Crowded step cells) = codes "crowded step " ++ decimal step ++ codes " cells "
    ++ decimal cells ++ codes "\n"
text_of dim (Overflow step leaf) = codes "overflow step " ++ decimal step ++ codes " at "
    ++ key_text dim leaf ++ codes "\n"
text_of dim (WriteFault written) = codes "write fault after " ++ decimal written ++ codes " bytes"
    ++ codes "\n"
text_of dim NoMemory = codes "out of memory\n"

-- the status that the program ends with
abbrev pub status_of : Answer → ℕ
status_of Done = 0
status_of Usage = 2
status_of ReadFault = 3
status_of TooLong = 3
status_of (Malformed code place) = 4
status_of (Limit which number) = 5
status_of (Crowded step cells) = 5
status_of (Overflow step leaf) = 6
status_of (WriteFault written) = 7
status_of NoMemory = 8
