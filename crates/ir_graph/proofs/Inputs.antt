-- The inputs of a stored step.
use mathlib.Core.Path.{◌≡◌}
use mathlib.Core.List.{List}
use Prim.Native.Nat.{ℕ, ◌+◌, ◌*◌, ◌≤◌, ◌<◌}
use native.Mathlib.Omega.{arith}
use lib.ListN.{length, get_or, length-take, length-drop}
use Rattle.storage.specs.Stored.{stored_step, StepFormed}
use Rattle.storage.proofs.LineLaws.{inputs_are}

abbrev pub inputs_of : List ℕ → ℕ → List ℕ
inputs_of bytes i = (stored_step bytes i).inputs

pub input_count : (bytes : List ℕ) (i : ℕ) → length bytes ≡ 1024 → i < 32 → StepFormed bytes i → length (inputs_of bytes i) ≡ get_or bytes (i * 32 + 4) 0
input_count bytes i size h formed = rw (inputs_are bytes i) (simp (length-take, length-drop) (omega (arith, formed.n1)))

pub few_inputs : (bytes : List ℕ) (i : ℕ) → StepFormed bytes i → length (inputs_of bytes i) ≤ 8
few_inputs bytes i formed = rw (inputs_are bytes i) (simp length-take (omega (arith, formed.n1)))
