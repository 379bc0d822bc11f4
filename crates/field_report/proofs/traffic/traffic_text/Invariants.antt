use Rattle.std.proofs.Common.{◌≡◌, ◌++◌, take, length, string_bytes}
use Rattle.std.specs.List.{flat_map}
use Rattle.field_report.specs.Traffic.{traffic_head, tree_line}
use Rattle.field_report.proofs.traffic.traffic_text.Given as goal

abbrev pub invariant-loop-traffic : goal.invariant-loop-traffic
invariant-loop-traffic l = string_bytes l.text ≡ traffic_head l.step (length l.list) ++ flat_map tree_line (take l.traffic-index l.list)
