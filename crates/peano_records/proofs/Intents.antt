-- Intents between two grids.
use Rattle.std.proofs.Common.{◌≡◌, ⊎_elim, inr, inl, ℕ, ◌<◌, Bool, true, false, refl, sym, ◌∙◌, arith, ◌&&◌, not}
use Rattle.std.proofs.lemmas.Bool.{false≢true}
use Rattle.peano_keys.specs.declared.dim.Dim.{Dim}
use Rattle.peano_keys.specs.declared.dim.Dim.TheVariants.{Two, Three}
use Rattle.peano_keys.specs.Dim.{corners}
use Rattle.peano_keys.specs.Grid.{is_refined, has_cell}
use Rattle.peano_keys.specs.Next.{Splits}
use Rattle.peano_records.specs.declared.slot.Intent.TheVariants.{Stay, Split, Merge}
use Rattle.peano_records.specs.AtRest.{intent_between}
use Rattle.peano_records.specs.Laws.{IntentsFollowMarks, RestIntendsNothing}

pub below_eight : (dim : Dim) (n : ℕ) → n < corners dim → n < 8
below_eight Two n h = omega (arith, h)
below_eight Three n h = h

-- from a grid to itself nothing is intended
no_change : (b : Bool) → intent_between b b ≡ Stay
no_change true = refl
no_change false = refl

pub rest_intends_nothing : RestIntendsNothing
rest_intends_nothing t f v r = record {
  eight = r.eight;
  outside = r.outside;
  inside = λ n c h e. record { status = (r.inside n c h e).status; intent = r.stay n (below_eight t.dim n h) ∙ sym (no_change (is_refined t c)) };
  idle = λ n h e. r.stay n (below_eight t.dim n h);
  unused = λ n h k. r.stay n k;
}

-- a leaf is not refined
leaf_is_plain : (a b : Bool) → (a && not b) ≡ true → b ≡ false
leaf_is_plain true false e = refl
leaf_is_plain true true e = sym e
leaf_is_plain false false e = refl
leaf_is_plain false true e = sym e

split_between : (a b : Bool) → a ≡ false → b ≡ true → intent_between a b ≡ Split
split_between a b ha hb = rw (ha, hb) refl

merge_between : (a b : Bool) → a ≡ true → (b ≡ true → ⊥) → intent_between a b ≡ Merge
merge_between true false ha hb = refl
merge_between true true ha hb = absurd (hb refl)
merge_between false b ha hb = grind arith

stay_between : (a b : Bool) → (b ≡ true → a ≡ true) → (a ≡ true → b ≡ true) → intent_between a b ≡ Stay
stay_between true true hb ha = refl
stay_between false false hb ha = refl
stay_between true false hb ha = grind (arith, ha refl)
stay_between false true hb ha = grind (arith, hb refl)

pub intents_follow_marks : IntentsFollowMarks
intents_follow_marks old new marks c h =
    let plain : (Splits old marks c → is_refined old c ≡ false) = λ s. leaf_is_plain (has_cell old c) (is_refined old c) s.leaf in
    record {
      split = λ s. split_between (is_refined old c) (is_refined new c) (plain s) ((h.refined c).1 (inl s));
      merge = λ m. merge_between (is_refined old c) (is_refined new c) m.refined (λ e. ⊎_elim (λ s. false≢true (sym (plain s) ∙ m.refined)) (λ k. k.1 m) ((h.refined c).0 e));
      stay = λ ns nm. stay_between (is_refined old c) (is_refined new c) (λ e. ⊎_elim (λ s. absurd (ns s)) (λ k. k.0) ((h.refined c).0 e)) (λ e. (h.refined c).1 (inr (e, nm)));
    }
