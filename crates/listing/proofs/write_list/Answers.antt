use mathlib.Core.Path.{sym, ◌∙◌}
use Rattle.listing.proofs.LineLaws.{list_unsound}
use Rattle.listing.proofs.write_list.Goals as goal

pub returns-then-not-sound : goal.returns-then-not-sound
returns-then-not-sound c =
    let a = c.args in
    sym (list_unsound a.p a.buf.now a.at (sym c.sound.ensures ∙ c.if-not-sound.true))

pub write_sound_list-requires : goal.write_sound_list-requires
write_sound_list-requires c = sym c.sound.ensures ∙ c.if-not-sound.false
