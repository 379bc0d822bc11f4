-- The document of a demonstration means its plan.
use Rattle.std.proofs.Common.{◌≡◌, ℕ, zero, suc, pos, ◌+◌, ◌*◌, ◌-ℤ◌, ◌<◌, ◌≤◌, Bool, false, List, [], ◌∷◌, map, Option, Some, None, Ok, unwrap_or, refl, ap, ◌∙◌, arith}
use Rattle.std.proofs.lemmas.Bool.Decides.{nat_tests}
use Rattle.std.specs.Option.{option_or}
use Rattle.std.specs.Prelude.{is_none}
use Rattle.std.specs.List.{range_with_len}
use Rattle.toml.specs.Data.{Items, Members, integer, item, no_items}
use Rattle.peano_keys.specs.declared.dim.Dim.TheVariants.{Two}
use Rattle.peano_keys.specs.declared.state.State.TheVariants.{Single}
use Rattle.peano_keys.specs.Cell.{triple}
use Rattle.grid_file.specs.declared.place.Place.{Place}
use Rattle.grid_file.specs.declared.place.Part.TheVariants as part
use Rattle.grid_file.specs.declared.place.KeyName.TheVariants as key
use Rattle.grid_file.specs.Places.{place_of}
use Rattle.grid_file.specs.declared.solver.SolverName.TheVariants.{Diffuse}
use Rattle.grid_file.specs.Tree.{number_in}
use Rattle.grid_file.specs.Values.{corner_within, corner_from}
use Rattle.grid_file.specs.Faults.{Check, check, first, judged}
use Rattle.grid_file.specs.Keys.{in_each, in_tables, is_among, unlisted, missing}
use Rattle.grid_file.specs.Boxes.{read_each, lower_in, upper_in, fill_checks, fill_from, zone_checks, zone_from}
use Rattle.grid_file.specs.Plan.{plan_in}
use Rattle.grid_file.specs.Stages.{first_fault}
use Rattle.grid_file.proofs.Searches.{first_append, least_is_first}
use Rattle.demonstration.specs.Draws.{draw}
use Rattle.demonstration.specs.Demo.{fill_by, zone_by, fill_at, zone_at, demo, demo_solver}
use Rattle.demonstration.specs.Document.{fill_table, zone_table, tables, document, IsOfDocument}
use Rattle.demonstration.proofs.LaterDraws.{draw_below}

-- ---- lists of tables

-- where no table is refused no list of them is
passes : {T : Type 0} (code : ℕ) (checks : ℕ → Members → List Check) (write : T → Members) (f : ℕ → T) → ((k i : ℕ) → first code (checks k (write (f i))) ≡ None) → (k a m : ℕ) → first code (in_each checks k (tables (map write (map f (range_with_len a m))))) ≡ None
passes code checks write f each k a zero = refl
passes code checks write f each k a (suc m) =
    first_append code (checks k (write (f a))) (in_each checks (k + 1) (tables (map write (map f (range_with_len (a + 1) m)))))
    ∙ (λ i. option_or (each k a i) (passes code checks write f each (k + 1) (a + 1) m i))

-- what is read of each table is read of the list
reads : {T : Type 0} (read : Members → T) (write : T → Members) (f : ℕ → T) → ((i : ℕ) → read (write (f i)) ≡ f i) → (a m : ℕ) → read_each read (tables (map write (map f (range_with_len a m)))) ≡ map f (range_with_len a m)
reads read write f each a zero = refl
reads read write f each a (suc m) = λ i. each a i ∷ reads read write f each (a + 1) m i

-- four checks of which none applies
four_pass : (code : ℕ) (p q r s : Place) (a b c d : Bool) → a ≡ false → b ≡ false → c ≡ false → d ≡ false → first code (check p a ∷ check q b ∷ check r c ∷ check s d ∷ []) ≡ None
four_pass code p q r s a b c d e f g h = λ i. first code (check p (e i) ∷ check q (f i) ∷ check r (g i) ∷ check s (h i) ∷ [])

-- ---- the corners of a box

number_known : (low high n : ℕ) → low ≤ n → n ≤ high → number_in low high (Some (integer (pos n))) ≡ Some n
number_known low high n h g = grind (arith, nat_tests)

corner_known : (a b c high x y : ℕ) → a ≤ x → x ≤ high → b ≤ y → y ≤ high → corner_within Two (triple a b c) high (item (integer (pos x)) (item (integer (pos y)) no_items)) ≡ Some (triple x y 0)
corner_known a b c high x y h g k l = λ i. corner_from (number_known a high x h g i) (number_known b high y k l i) (Some 0)

module _ (x y : ℕ) where
  lower_of_fill : (v : ℕ) → x < 25 → y < 25 → lower_in Two 3 (fill_table (fill_by x y v)) ≡ Some (triple x y 0)
  lower_of_fill v h g = corner_known 0 0 0 26 x y (omega arith) (omega arith) (omega arith) (omega arith)

  upper_of_fill : (v : ℕ) → x < 25 → y < 25 → upper_in Two 3 (unwrap_or (lower_in Two 3 (fill_table (fill_by x y v))) (triple 0 0 0)) (fill_table (fill_by x y v)) ≡ Some (triple (x + 2) (y + 2) 0)
  upper_of_fill v h g =
      ap (λ (o : Option (List ℕ)). upper_in Two 3 (unwrap_or o (triple 0 0 0)) (fill_table (fill_by x y v))) (lower_of_fill v h g)
      ∙ corner_known (x + 1) (y + 1) 1 27 (x + 2) (y + 2) (omega arith) (omega arith) (omega arith) (omega arith)

  fill_passes : (v k : ℕ) → x < 25 → y < 25 → first 10 (fill_checks Two 5 Diffuse k (fill_table (fill_by x y v))) ≡ None
  fill_passes v k h g = four_pass 10 (place_of part.Fill k key.Level) (place_of part.Fill k key.From) (place_of part.Fill k key.To) (place_of part.Fill k key.Value) _ _ _ _ refl (ap is_none (lower_of_fill v h g)) (ap is_none (upper_of_fill v h g)) refl

  fill_reads : (v : ℕ) → x < 25 → y < 25 → fill_from Two 5 Diffuse (fill_table (fill_by x y v)) ≡ fill_by x y v
  fill_reads v h g = λ i. record { level = 3; from = unwrap_or (lower_of_fill v h g i) (triple 0 0 0); to = unwrap_or (upper_of_fill v h g i) (triple 0 0 0); value = Single (pos v -ℤ pos 1000) }

  lower_of_zone : x < 27 → y < 27 → lower_in Two 3 (zone_table (zone_by x y)) ≡ Some (triple x y 0)
  lower_of_zone h g = corner_known 0 0 0 26 x y (omega arith) (omega arith) (omega arith) (omega arith)

  upper_of_zone : x < 27 → y < 27 → upper_in Two 3 (unwrap_or (lower_in Two 3 (zone_table (zone_by x y))) (triple 0 0 0)) (zone_table (zone_by x y)) ≡ Some (triple (x + 1) (y + 1) 0)
  upper_of_zone h g =
      ap (λ (o : Option (List ℕ)). upper_in Two 3 (unwrap_or o (triple 0 0 0)) (zone_table (zone_by x y))) (lower_of_zone h g)
      ∙ corner_known (x + 1) (y + 1) 1 27 (x + 1) (y + 1) (omega arith) (omega arith) (omega arith) (omega arith)

  zone_passes : (k : ℕ) → x < 27 → y < 27 → first 11 (zone_checks Two 5 k (zone_table (zone_by x y))) ≡ None
  zone_passes k h g = four_pass 11 (place_of part.Refine k key.Level) (place_of part.Refine k key.From) (place_of part.Refine k key.To) (place_of part.Refine k key.Until) _ _ _ _ refl (ap is_none (lower_of_zone h g)) (ap is_none (upper_of_zone h g)) refl

  zone_reads : x < 27 → y < 27 → zone_from Two 5 (zone_table (zone_by x y)) ≡ zone_by x y
  zone_reads h g = λ i. record { level = 3; from = unwrap_or (lower_of_zone h g i) (triple 0 0 0); to = unwrap_or (upper_of_zone h g i) (triple 0 0 0); until = 5 }

-- ---- the document

module _ (n : ℕ) where
  x_of : (i : ℕ) → draw n (3 * i) 25 < 25
  x_of i = draw_below n (3 * i) 25 (omega arith)

  y_of : (i : ℕ) → draw n (3 * i + 1) 25 < 25
  y_of i = draw_below n (3 * i + 1) 25 (omega arith)

  u_of : (j : ℕ) → draw n (36 + 2 * j) 27 < 27
  u_of j = draw_below n (36 + 2 * j) 27 (omega arith)

  w_of : (j : ℕ) → draw n (36 + 2 * j + 1) 27 < 27
  w_of j = draw_below n (36 + 2 * j + 1) 27 (omega arith)

  abbrev fills : Items
  fills = tables (map fill_table (demo n).fills)

  abbrev zones : Items
  zones = tables (map zone_table (demo n).shape.zones)

  fills_listed : first 2 (in_each (unlisted part.Fill) 0 fills) ≡ None
  unfolding is_among
  fills_listed = passes 2 (unlisted part.Fill) fill_table (fill_at n) (λ k i. refl) 0 0 12

  zones_listed : first 2 (in_each (unlisted part.Refine) 0 zones) ≡ None
  unfolding is_among
  zones_listed = passes 2 (unlisted part.Refine) zone_table (zone_at n) (λ k i. refl) 0 0 8

  fills_whole : first 3 (in_each (missing part.Fill) 0 fills) ≡ None
  fills_whole = passes 3 (missing part.Fill) fill_table (fill_at n) (λ k i. refl) 0 0 12

  zones_whole : first 3 (in_each (missing part.Refine) 0 zones) ≡ None
  zones_whole = passes 3 (missing part.Refine) zone_table (zone_at n) (λ k i. refl) 0 0 8

  fills_pass : first 10 (in_each (fill_checks Two 5 Diffuse) 0 fills) ≡ None
  fills_pass = passes 10 (fill_checks Two 5 Diffuse) fill_table (fill_at n) (λ k i. fill_passes (draw n (3 * i) 25) (draw n (3 * i + 1) 25) (draw n (3 * i + 2) 2001) k (x_of i) (y_of i)) 0 0 12

  zones_pass : first 11 (in_each (zone_checks Two 5) 0 zones) ≡ None
  zones_pass = passes 11 (zone_checks Two 5) zone_table (zone_at n) (λ k j. zone_passes (draw n (36 + 2 * j) 27) (draw n (36 + 2 * j + 1) 27) k (u_of j) (w_of j)) 0 0 8

  fills_read : read_each (fill_from Two 5 Diffuse) fills ≡ (demo n).fills
  fills_read = reads (fill_from Two 5 Diffuse) fill_table (fill_at n) (λ i. fill_reads (draw n (3 * i) 25) (draw n (3 * i + 1) 25) (draw n (3 * i + 2) 2001) (x_of i) (y_of i)) 0 12

  zones_read : read_each (zone_from Two 5) zones ≡ (demo n).shape.zones
  zones_read = reads (zone_from Two 5) zone_table (zone_at n) (λ j. zone_reads (draw n (36 + 2 * j) 27) (draw n (36 + 2 * j + 1) 27) (u_of j) (w_of j)) 0 8

  -- no code applies to the document
  none_unlisted : first 2 (in_tables unlisted (document n)) ≡ None
  unfolding is_among
  none_unlisted =
      first_append 2 (in_each (unlisted part.Fill) 0 fills) (in_each (unlisted part.Refine) 0 zones)
      ∙ (λ i. option_or (fills_listed i) (zones_listed i))

  none_missing : first 3 (in_tables missing (document n)) ≡ None
  none_missing =
      first_append 3 (in_each (missing part.Fill) 0 fills) (in_each (missing part.Refine) 0 zones)
      ∙ (λ i. option_or (fills_whole i) (zones_whole i))

  no_fault : first_fault (document n) ≡ None
  no_fault = λ i. option_or (none_unlisted i) (option_or (none_missing i) (option_or None (option_or None (option_or None (option_or (fills_pass i) (option_or (zones_pass i) None))))))

  same_plan : plan_in (document n) ≡ demo n
  same_plan = λ i. record {
    shape = record { dim = Two; depth = 5; base = 3; zones = zones_read i };
    fills = fills_read i;
    solver = demo_solver;
    steps = 20;
    print_every = None;
    recut_every = None;
  }

pub is_of_document : IsOfDocument
is_of_document n =
    ap (λ o. judged o (plan_in (document n))) (least_is_first (document n) ∙ no_fault n) ∙ ap Ok (same_plan n)
