-- Pieces of a text, one after another.
use Rattle.std.proofs.Common.{◌≡◌, ℕ, List, ◌++◌, ap, ◌∙◌, append_assoc}

pub two : (s a b t u : List ℕ) → t ≡ s ++ a → u ≡ t ++ b → u ≡ s ++ (a ++ b)
two s a b t u first second = second ∙ ap (λ (x : List ℕ). x ++ b) first ∙ append_assoc s a b

pub three : (s a b c t u v : List ℕ) → t ≡ s ++ a → u ≡ t ++ b → v ≡ u ++ c → v ≡ s ++ (a ++ (b ++ c))
three s a b c t u v first second third = two s a (b ++ c) t v first (two t b c u v second third)

pub four : (s a b c d t u v w : List ℕ) → t ≡ s ++ a → u ≡ t ++ b → v ≡ u ++ c → w ≡ v ++ d → w ≡ s ++ (a ++ (b ++ (c ++ d)))
four s a b c d t u v w first second third fourth = two s a (b ++ (c ++ d)) t w first (three t b c d u v w second third fourth)
