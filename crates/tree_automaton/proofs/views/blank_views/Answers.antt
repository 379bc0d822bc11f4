use Rattle.tree_automaton.proofs.Places.{no_places, places_joined}
use Rattle.tree_automaton.proofs.views.blank_views.Goals as goal

pub returns : goal.returns
returns c = λ dim. places_joined dim 1 _ _ (c.blank_view.ensures dim) (places_joined dim 2 _ _ (c.blank_view-2.ensures dim) (places_joined dim 3 _ _ (c.blank_view-3.ensures dim) (places_joined dim 4 _ _ (c.blank_view-4.ensures dim) (places_joined dim 5 _ _ (c.blank_view-5.ensures dim) (places_joined dim 6 _ _ (c.blank_view-6.ensures dim) (places_joined dim 7 _ _ (c.blank_view-7.ensures dim) (places_joined dim 8 _ _ (c.blank_view-8.ensures dim) (places_joined dim 9 _ _ (c.blank_view-9.ensures dim) (places_joined dim 10 _ _ (c.blank_view-10.ensures dim) (places_joined dim 11 _ _ (c.blank_view-11.ensures dim) (places_joined dim 12 _ _ (c.blank_view-12.ensures dim) (no_places dim))))))))))))
