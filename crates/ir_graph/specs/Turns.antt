-- What one turn of a pass does, said of the stored steps and of the hits that the code counts.
use Rattle.std.specs.Prelude.{ℕ, ◌+◌, ◌-◌, Bool, ◌&&◌, not, List, [], ◌∷◌, eqb, ltb, get_or, set, if◌then◌else◌}
use Rattle.plan.specs.declared.ir.IR.{IR}
use Rattle.plan.specs.Kinds.{same_ir}
use Rattle.storage.specs.Stored.{stored_step}

-- i, if it is a root
abbrev pub root : List ℕ → ℕ → List ℕ
root bytes i = if same_ir (stored_step bytes i).kind IR.Sink then i ∷ [] else []

abbrev pub cached : List ℕ → ℕ → Bool
cached bytes i = same_ir (stored_step bytes i).kind IR.Cache

-- The first pass: what i pushes where it is met, and the hits then. A Cache that was met before pushes nothing
abbrev pub pushed_by : List ℕ → List ℕ → ℕ → List ℕ
pushed_by bytes hits i = if cached bytes i && ltb 0 (get_or hits i 0) then [] else (stored_step bytes i).inputs

abbrev pub hit : List ℕ → List ℕ → ℕ → List ℕ
hit bytes hits i = if cached bytes i then set hits i (get_or hits i 0 + 1) else hits

-- The second pass: what follows i's place, and the hits then. A Cache's hits are used up at its last place, and its input follows there
abbrev pub followed_by : List ℕ → List ℕ → ℕ → List ℕ
followed_by bytes hits i = if cached bytes i && not (eqb (get_or hits i 0 - 1) 0) then [] else (stored_step bytes i).inputs

abbrev pub used : List ℕ → List ℕ → ℕ → List ℕ
used bytes hits i = if cached bytes i then set hits i (get_or hits i 0 - 1) else hits
