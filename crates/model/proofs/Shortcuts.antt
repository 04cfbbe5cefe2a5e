-- The one theorem of document 01's 'Shortcuts that lose a claim': the definitions give each history's bytes and answers, by computation.
-- Each shortcut, made in the definitions, is refused here. Assumes nothing.
use Rattle.std.specs.Prelude.{◌≡◌, refl, map}
use Rattle.model.specs.Shortcuts.{cases}

-- Each history gives what is wanted.
pub shortcuts_refused : map (λ c. c.got) cases ≡ map (λ c. c.wanted) cases
unfolding cases
shortcuts_refused = refl
