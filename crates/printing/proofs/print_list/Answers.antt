use mathlib.Core.Path.{◌≡◌, subst}
use Rattle.lists.specs.TestLaws.{reflects_true}
use Rattle.part.specs.SoundLaws.{sound_reflects}
use Rattle.listing.specs.Trusted.Listing.{list_of}
use Rattle.std.specs.Prelude.{ℕ, Result}
use Rattle.listing.specs.declared.WriteError.{WriteError}
use Rattle.printing.specs.Promises.{WrittenAs}
use Rattle.printing.proofs.Printing.{printed_of, list_printed}
use Rattle.printing.proofs.print_list.Goals as goal
use Rattle.printing.proofs.print_list.Goals.{After-write_sound_list}

-- what is printed, by the answer
printed : (c : After-write_sound_list) {a : Result ℕ WriteError} → c.write_sound_list.result ≡ a → WrittenAs (list_of c.args.part) (printed_of a) c.write_sound_list.new.buf c.args.output.now
printed c e = subst (λ a. WrittenAs (list_of c.args.part) (printed_of a) c.write_sound_list.new.buf c.args.output.now) e
    (list_printed c.args.part c.requires c.args.output.now c.write_sound_list.new.buf c.write_sound_list.result c.write_sound_list.ensures)

pub write_sound_list-requires : goal.write_sound_list-requires
write_sound_list-requires c = reflects_true (sound_reflects c.args.part) c.requires

pub returns-in-Ok : goal.returns-in-Ok
returns-in-Ok c = printed (goal.at.returns-in-Ok c).After-write_sound_list c.in-Ok.is

pub returns-in-Err : goal.returns-in-Err
returns-in-Err c = printed (goal.at.returns-in-Err c).After-write_sound_list c.in-Err.is
