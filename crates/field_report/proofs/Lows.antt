-- The least and the greatest of values, met one after another.
use Rattle.std.proofs.Common.{◌≡◌, ℕ, ℤ, ◌+◌, ◌<◌, Bool, cond, List, fold, take, length, get_or, ap, ap₂, sym, subst, ◌∙◌, ⊎_elim, arith}
use Rattle.std.specs.Prelude.{Contains, All, pos, int_lt, slice_index_or}
use Rattle.std.specs.Int.{int_min, int_max}
use Rattle.std.proofs.lemmas.Int.{fold-int_min_reached, fold-int_min_bounds, fold-int_max_reached, fold-int_max_bounds}
use Rattle.std.proofs.lemmas.List.{length-map, get_or-map}
use Rattle.std.proofs.lemmas.List.Sums.{fold_more}
use Rattle.std.proofs.Math.Seq.{take-length}
use Rattle.std.proofs.lemmas.List.Elements.{Contains-get_or}
use Rattle.peano_keys.specs.State.{value_at}
use Rattle.spacetree.specs.declared.row.Row.{Row}
use Rattle.field_report.specs.Summary.{first_values, IsLow, IsHigh}

-- the first value of the first row
abbrev pub first_of : List Row → ℤ
first_of rows = slice_index_or (first_values rows) 0 (pos 0)

count : (rows : List Row) → length (first_values rows) ≡ length rows
count rows = length-map rows (λ (row : Row). value_at row.value 0)

first_is_among : (rows : List Row) → 0 < length rows → Contains (first_values rows) (first_of rows)
first_is_among rows some = Contains-get_or (first_values rows) 0 (pos 0) (omega (arith, some, count rows))

low_step : (rows : List Row) (i : ℕ) (v x : ℤ) (d : Row) → i < length rows → v ≡ fold int_min (first_of rows) (take i (first_values rows)) → x ≡ value_at (get_or rows i d).value 0 → int_min v x ≡ fold int_min (first_of rows) (take (i + 1) (first_values rows))
low_step rows i v x d inside so_far is =
    let at : get_or (first_values rows) i (pos 0) ≡ x = get_or-map (λ (row : Row). value_at row.value 0) rows i d (pos 0) inside ∙ sym is in
    sym (fold_more int_min (first_of rows) (first_values rows) i (pos 0) (omega (arith, inside, count rows)) ∙ ap₂ (λ a b. int_min a b) (sym so_far) at)

high_step : (rows : List Row) (i : ℕ) (v x : ℤ) (d : Row) → i < length rows → v ≡ fold int_max (first_of rows) (take i (first_values rows)) → x ≡ value_at (get_or rows i d).value 0 → int_max v x ≡ fold int_max (first_of rows) (take (i + 1) (first_values rows))
high_step rows i v x d inside so_far is =
    let at : get_or (first_values rows) i (pos 0) ≡ x = get_or-map (λ (row : Row). value_at row.value 0) rows i d (pos 0) inside ∙ sym is in
    sym (fold_more int_max (first_of rows) (first_values rows) i (pos 0) (omega (arith, inside, count rows)) ∙ ap₂ (λ a b. int_max a b) (sym so_far) at)

-- a row that is lower takes the place, and any other leaves it
pub low_more : (rows : List Row) (i : ℕ) (v x : ℤ) (d : Row) (b : Bool) → i < length rows → v ≡ fold int_min (first_of rows) (take i (first_values rows)) → x ≡ value_at (get_or rows i d).value 0 → int_lt x v ≡ b → cond b x v ≡ fold int_min (first_of rows) (take (i + 1) (first_values rows))
low_more rows i v x d b inside so_far is lt = sym (ap (λ (q : Bool). cond q x v) lt) ∙ low_step rows i v x d inside so_far is

pub high_more : (rows : List Row) (i : ℕ) (v x : ℤ) (d : Row) (b : Bool) → i < length rows → v ≡ fold int_max (first_of rows) (take i (first_values rows)) → x ≡ value_at (get_or rows i d).value 0 → int_lt x v ≡ b → cond b v x ≡ fold int_max (first_of rows) (take (i + 1) (first_values rows))
high_more rows i v x d b inside so_far is lt = sym (ap (λ (q : Bool). cond q v x) lt) ∙ high_step rows i v x d inside so_far is

-- what is the least of all that were met is the least of the rows
low_of_all : (rows : List Row) (v : ℤ) → 0 < length rows → v ≡ fold int_min (first_of rows) (first_values rows) → IsLow rows v
low_of_all rows v some e = record {
  among = ⊎_elim (λ first. subst (Contains (first_values rows)) (sym first) (first_is_among rows some)) (λ c. c) (fold-int_min_reached (first_of rows) (first_values rows) v e);
  least = (fold-int_min_bounds (first_of rows) (first_values rows) v e).1;
}

-- and the greatest
high_of_all : (rows : List Row) (v : ℤ) → 0 < length rows → v ≡ fold int_max (first_of rows) (first_values rows) → IsHigh rows v
high_of_all rows v some e = record {
  among = ⊎_elim (λ first. subst (Contains (first_values rows)) (sym first) (first_is_among rows some)) (λ c. c) (fold-int_max_reached (first_of rows) (first_values rows) v e);
  greatest = (fold-int_max_bounds (first_of rows) (first_values rows) v e).1;
}

all_taken : (rows : List Row) (i : ℕ) → i ≡ length rows → take i (first_values rows) ≡ first_values rows
all_taken rows i whole = ap (λ n. take n (first_values rows)) (whole ∙ sym (count rows)) ∙ take-length (first_values rows)

-- so at the end of the rows
pub low_at_end : (rows : List Row) (v : ℤ) (i : ℕ) → 0 < length rows → i ≡ length rows → v ≡ fold int_min (first_of rows) (take i (first_values rows)) → IsLow rows v
low_at_end rows v i some whole e = low_of_all rows v some (e ∙ ap (fold int_min (first_of rows)) (all_taken rows i whole))

pub high_at_end : (rows : List Row) (v : ℤ) (i : ℕ) → 0 < length rows → i ≡ length rows → v ≡ fold int_max (first_of rows) (take i (first_values rows)) → IsHigh rows v
high_at_end rows v i some whole e = high_of_all rows v some (e ∙ ap (fold int_max (first_of rows)) (all_taken rows i whole))
