use mathlib.Core.Path.{refl, sym, ◌∙◌}
use Rattle.table.specs.LevelTest.{no_levels}
use Rattle.part.specs.Trusted.SoundTest.{sound}
use Rattle.part.proofs.Part.levels.Goals as goal

pub sound-is_sound-requires : goal.sound-is_sound-requires
unfolding no_levels
sound-is_sound-requires c = refl

pub returns-then-is_sound : goal.returns-then-is_sound
unfolding sound
returns-then-is_sound c =
    let t = c.if-is_sound.true in
    (sym c.sound-is_sound.ensures.0 ∙ t, c.sound-is_sound.ensures.1 t)

pub returns-else-is_sound : goal.returns-else-is_sound
unfolding sound
returns-else-is_sound c = sym c.sound-is_sound.ensures.0 ∙ c.if-is_sound.false
