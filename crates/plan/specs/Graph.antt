-- build_ir_traversal_graph of ir_graph.rs: the visiting list (document 01's term for ir_nodes_stack) and the edges.
--
-- The Rust tells steps apart by IRNodeKey (ir_node_key.rs): a Cache by its id, any other step by its node. Here the key of a step
-- is a line: of the Cache lines with one id the one that the first pass meets first (`tracker.nodes[0]`), of any other step its
-- own. Refusal 13 leaves each id one line, so on an accepted sheet every step is its own key.
use Rattle.std.specs.Prelude.{ℕ, zero, suc, ◌+◌, Bool, false, ◌&&◌, ◌||◌, not, List, [], ◌∷◌, ◌++◌, map, reverse, eqb, length, if◌then◌else◌}
use Rattle.std.proofs.Math.Option.{Option, some}
use Rattle.plan.specs.declared.ir.IR.{IR}
use Rattle.plan.specs.Kinds.{same_ir}
use Rattle.plan.specs.Lists.{any?, select, numbered, times}
use Rattle.plan.specs.Sheet.{Step, step_at}
use Rattle.plan.specs.Faults.{named}

-- An edge runs from the step that produces to a slot of the step that consumes. in_edges of a step are those that it consumes,
-- by slot; out_edges those that it produces; out_nodes their consumers. An edge into a removed sort has no producer any more.
pub record Edge : Type 0 where
  pub consumer : ℕ
  pub slot : ℕ
  pub producer : Option ℕ
  pub unordered : Bool

-- roots
unfoldable pub sinks : List Step → List ℕ
sinks ps = map (λ (n, s). n) (select (λ (n, s). same_ir s.kind IR.Sink) (numbered 0 ps))

abbrev pub is_cache : List Step → ℕ → Bool
is_cache ps n = same_ir (step_at ps n).kind IR.Cache

-- A place for each root and each naming: both passes end within as many turns
abbrev pub most_places : List Step → ℕ
most_places ps = length (sinks ps) + length (named ps)

-- The first pass, depth first --------------------------------------------------------------------------------------------

-- two Cache lines with one id: they have one IRNodeKey
abbrev pub one_id : List Step → ℕ → ℕ → Bool
one_id ps k m = is_cache ps k && is_cache ps m && eqb (step_at ps k).a (step_at ps m).a

-- the inputs that n pushes, after `met`: a Cache pushes them where its id is met first
unfoldable pub pushes : List Step → List ℕ → ℕ → List ℕ
pushes ps met n = if any? (λ k. one_id ps k n) met then [] else (step_at ps n).inputs

-- The steps in the order in which they are popped; `stack` begins with the one that is popped next. The fuel is the number of turns
unfoldable pub pop : ℕ → List Step → List ℕ → List ℕ → List ℕ
pop zero ps met stack = met
pop (suc f) ps met [] = met
pop (suc f) ps met (n ∷ stack) = pop f ps (met ++ (n ∷ [])) (reverse (pushes ps met n) ++ stack)

unfoldable pub popped : List Step → List ℕ
popped ps = pop (most_places ps) ps [] (reverse (sinks ps))

-- nodes[0] of n's id: the first of its lines in a list; n itself where there is none, as for a step that is no Cache
unfoldable pub first_met : List Step → List ℕ → ℕ → ℕ
first_met ps [] n = n
first_met ps (k ∷ met) n = if one_id ps k n then k else first_met ps met n

-- every step
unfoldable pub all_steps : List Step → List ℕ
all_steps ps = map (λ (n, s). n) (numbered 0 ps)

-- The key of a step. On an accepted sheet every Cache line is met; where none of an id is, the id goes by its first line
unfoldable pub key : List Step → ℕ → ℕ
key ps = first_met ps (popped ps ++ all_steps ps)

-- The second pass --------------------------------------------------------------------------------------------------------

module _ (key : ℕ → ℕ) where
  -- how often a line with n's key stands in a list: the hits of n's id, in the list of those met
  unfoldable pub hits : List ℕ → ℕ → ℕ
  hits l n = times (key n) (map key l)

  -- a place holds n, after `past`: do inputs follow now? An id's follow at its last place, where its hits are used up
  unfoldable pub opens : List Step → List ℕ → List ℕ → ℕ → Bool
  opens ps met past n = not (is_cache ps n) || eqb (hits past n + 1) (hits met n)

  -- the inputs that follow n's place, and the edges made for them: those of its key, `current_node = tracker.nodes[0]`
  unfoldable pub following : List Step → List ℕ → List ℕ → ℕ → List ℕ
  following ps met past n = if opens ps met past n then (step_at ps (key n)).inputs else []

  -- an edge from each of the inputs ms into n, by slot; both its ends go by key
  unfoldable pub edges_into : ℕ → List ℕ → List Edge
  edges_into n ms =
      map (λ (k, m). record { consumer = key n; slot = k; producer = some (key m); unordered = false }) (numbered 0 ms)

  -- `past` are the places gone through, the last one first; then those that wait. The fuel is the number of places
  unfoldable pub grow : ℕ → List Step → List ℕ → List ℕ → List ℕ → List Edge → List ℕ × List Edge
  grow zero ps met past waiting es = (reverse past ++ waiting, es)
  grow (suc f) ps met past [] es = (reverse past, es)
  grow (suc f) ps met past (n ∷ ns) es =
      let ms = following ps met past n in
      grow f ps met (n ∷ past) (ns ++ ms) (es ++ edges_into n ms)

-- The visiting list, each place with the line that its consumer names, and the edges
unfoldable pub build_ir_traversal_graph : List Step → List ℕ × List Edge
build_ir_traversal_graph ps = grow (key ps) (most_places ps) ps (popped ps) [] (sinks ps) []

-- The same with the key at each place: this is what the walks go along. A visit to a Cache goes by its edges alone, which its key
-- finds, and neither reads nor changes its line; so a visit to any line of an id is one to its key
unfoldable pub graph : List Step → List ℕ × List Edge
graph ps = let g = build_ir_traversal_graph ps in (map (key ps) g.0, g.1)

-- update_cache_nodes, after the walks: every Cache line takes the input of the line of its id that was met first, by the keys of the
-- steps as they were sent
unfoldable pub update_cache_nodes : (ℕ → ℕ) → List Step → List Step
update_cache_nodes key ps =
    map
    (λ (n, s).
    let met = if same_ir s.kind IR.Cache then step_at ps (key n) else s in
    record { kind = s.kind; a = s.a; b = s.b; c = s.c; inputs = met.inputs; exprs = s.exprs; aggs = s.aggs })
    (numbered 0 ps)
