-- The checks compute.
use Rattle.std.proofs.Common.{refl}
use Rattle.stack_walks.specs.Checks.{TwentySevenCellsLaneByLane, TwoLevelsLaneByLane, NineCellsLaneByLane, CountsOfSmallGrids, CentreFindsItsVertices}

pub nine_cells_lane_by_lane : NineCellsLaneByLane
nine_cells_lane_by_lane = (refl, refl, refl, refl)

pub counts_of_small_grids : CountsOfSmallGrids
counts_of_small_grids = (refl, refl, refl, refl, refl, refl, refl)

pub centre_finds_its_vertices : CentreFindsItsVertices
centre_finds_its_vertices = (refl, refl, refl, refl, refl)

pub twenty_seven_cells_lane_by_lane : TwentySevenCellsLaneByLane
twenty_seven_cells_lane_by_lane = (refl, refl, refl, refl, refl, refl, refl, refl, refl, refl, refl, refl)

pub two_levels_lane_by_lane : TwoLevelsLaneByLane
two_levels_lane_by_lane = ((refl, refl), (refl, refl), (refl, refl), (refl, refl))
