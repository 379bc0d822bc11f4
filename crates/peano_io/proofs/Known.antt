-- One step after another: what two reads consumed, and what two writes appended.
use Rattle.std.proofs.Common.{ℕ, ◌+◌, ◌-◌, List, ◌++◌, length, take, drop, Some, None, Option, append_assoc, sym, ◌∙◌, ap}
use Rattle.std.proofs.Math.Seq.{take-add}
use Rattle.std.proofs.lemmas.List.{take_rest}
use Rattle.std.specs.Io.KnownBytes.{Consumes, Appends}

pub Consumes-append : (a b c : Option (List ℕ)) (xs ys : List ℕ) → Consumes a b xs → Consumes b c ys → Consumes a c (xs ++ ys)
Consumes-append None b c xs ys first second = tt
Consumes-append (Some all) None c xs ys first second = absurd first
Consumes-append (Some all) (Some rest) None xs ys first second = absurd second
Consumes-append (Some all) (Some rest) (Some end) xs ys first second = first ∙ ap (λ r. xs ++ r) second ∙ sym (append_assoc xs ys end)

Appends-append : (a b c : Option (List ℕ)) (xs ys : List ℕ) → Appends a b xs → Appends b c ys → Appends a c (xs ++ ys)
Appends-append None b c xs ys first second = tt
Appends-append (Some all) None c xs ys first second = absurd first
Appends-append (Some all) (Some rest) None xs ys first second = absurd second
Appends-append (Some all) (Some rest) (Some end) xs ys first second = second ∙ ap (λ r. r ++ ys) first ∙ append_assoc all xs ys

-- a write of k bytes of `&bytes[n..]` after the first n
pub Appends-take : (a b c : Option (List ℕ)) (n k : ℕ) (bytes : List ℕ) → Appends a b (take n bytes) → Appends b c (take k (take (length bytes - n) (drop n bytes))) → Appends a c (take (n + k) bytes)
Appends-take a b c n k bytes first second =
    rw (take-add n k bytes) (Appends-append a b c (take n bytes) (take k (drop n bytes)) first (rw (take_rest bytes n) at second))
