use Rattle.std.proofs.Common.{rules, arith, ◌≡◌, ◌<◌, ◌≤◌, List, ℕ, Bool, true, false, Option, None, Some, MatchOption}
use Rattle.std.specs.Option.{unwrap_or, IfSome}
use Rattle.std.proofs.lemmas.Iterator.{first_from_Range}
use Rattle.plan.specs.Visit.{is_out_of}
use Rattle.claims.specs.Demand3.{leaving_among}
use Rattle.storage.specs.Edges.{stored_edge, stored_edges}
use Rattle.node_rules.proofs.OutEdges.{first_leaves, none_leaves}
use Rattle.node_rules.proofs.around.leaving_edge.Goals as goal

-- does edge k leave n?
abbrev Leaves : List ℕ → ℕ → Bool → ℕ → Type 0
Leaves edges n b k = (ends : List ℕ) → is_out_of n (stored_edge ends edges k) ≡ b

-- what `find` finds
leaving : (edges : List ℕ) (len n : ℕ) (r : Option ℕ)
    → MatchOption r ((k : ℕ) → 0 ≤ k → k < len → Leaves edges n false k) (λ i. (0 ≤ i) × (i < len) × Leaves edges n true i × ((k : ℕ) → 0 ≤ k → k < i → Leaves edges n false k))
    → ((ends : List ℕ) → unwrap_or r len ≡ leaving_among n (stored_edges ends edges len)) × IfSome r (λ k. k < len)
leaving edges len n None none = (λ ends. none_leaves ends edges len n (λ j h. none j (omega arith) h ends), tt)
leaving edges len n (Some i) (a, h, here, before) = (λ ends. first_leaves ends edges len n i h (here ends) (λ j l. before j (omega arith) l ends), h)

pub returns : goal.returns
returns c =
    let leaves = Leaves c.args.edges.now.bytes c.args.n in
    let found = leaving _ _ _ _ (first_from_Range _ _ _ _ (leaves true) (leaves false) c.find.ensures.ran (λ x q called ends. search rules) (λ x q called. (search rules, λ ends. search rules))) in
    record { number = found.0; among = found.1 }
