use Rattle.std.proofs.Common.{◌≡◌, ◌<◌, ◌==◌, if◌then◌else◌, length, arith, subst, sym, take, get_or, []}
use Rattle.std.specs.Option.{option_or}
use Rattle.peano_records.specs.declared.stored.Parcel.{Parcel}
use Rattle.std.proofs.lemmas.List.{take_more}
use Rattle.boundary_streams.specs.Sent.{last_of}
use Rattle.boundary_streams.specs.Mails.{parcel_at}
use Rattle.boundary_streams.proofs.Mail.{note_step}
use Rattle.boundary_streams.proofs.received.note.Goals as goal

abbrev nothing : Parcel
nothing = record { key = record { level = 0; v = [] }; slots = [] }

pub loop-parcel-preserved : goal.loop-parcel-preserved
loop-parcel-preserved c = (
  λ a.
      let within : c.loop-parcel.parcel-index < length c.args.list.now = omega arith in
      subst (λ ps. parcel_at c.note_one.new.received a ≡ (if c.args.sender == a.sender then option_or (last_of a.vertex ps) (parcel_at c.args.received.now a) else parcel_at c.args.received.now a)) (sym (take_more c.args.list.now c.loop-parcel.parcel-index nothing within))
      (note_step c.args.sender a (get_or c.args.list.now c.loop-parcel.parcel-index nothing) (take c.loop-parcel.parcel-index c.args.list.now) (parcel_at c.args.received.now a) (parcel_at c.loop-parcel.received a) (parcel_at c.note_one.new.received a) (c.in_ok-note_one.ensures.more a) (c.loop-parcel.invariant.0 a)),
  c.in_ok-note_one.ensures.covers,
)
