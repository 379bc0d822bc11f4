-- Tests of six, joined in pairs and in turn.
use Rattle.std.proofs.Common.{◌≡◌, refl, Bool, true, false, ◌&&◌, ◌||◌}

pub some_of_six : (a b c d e f : Bool) → (((a || b) || (c || d)) || (e || f)) ≡ (a || (b || (c || (d || (e || (f || false))))))
some_of_six true b c d e f = refl
some_of_six false true c d e f = refl
some_of_six false false true d e f = refl
some_of_six false false false true e f = refl
some_of_six false false false false true f = refl
some_of_six false false false false false true = refl
some_of_six false false false false false false = refl

pub all_of_six : (a b c d e f : Bool) → (((a && b) && (c && d)) && (e && f)) ≡ (a && (b && (c && (d && (e && (f && true))))))
all_of_six false b c d e f = refl
all_of_six true false c d e f = refl
all_of_six true true false d e f = refl
all_of_six true true true false e f = refl
all_of_six true true true true false f = refl
all_of_six true true true true true false = refl
all_of_six true true true true true true = refl
