-- The lines as a sheet sends them: each holds its own record, and no Implode is switched off.
use Rattle.std.specs.Prelude.{◌≡◌, ℕ, ◌<◌, Bool, false, List, length, get_or}

pub record OwnLines (line : List ℕ) : Type 0 where
  pub size : length line ≡ 128
  pub own : (q : ℕ) → q < 128 → get_or line q 0 ≡ q

pub record NoneOff (off : List Bool) : Type 0 where
  pub size : length off ≡ 128
  pub on : (q : ℕ) → get_or off q false ≡ false
