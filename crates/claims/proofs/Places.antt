-- The second pass: in the visiting list an input stands after every place of its consumer, and each place but a root's has an edge.
use Rattle.std.specs.Prelude.{if◌then◌else◌}
use mathlib.Core.Path.{◌≡◌, refl, ap, sym, ◌∙◌, subst}
use mathlib.Core.Logic.{◌⊎◌, inl, inr, ◌≢◌}
use Prim.Native.Nat.{ℕ, zero, suc, ◌+◌, ◌≤◌, ◌<◌}
use native.Mathlib.Omega.{arith}
use native.Mathlib.Nat.{not-suc-le-zero}
use native.Mathlib.Decide.{ℕ_discrete}
use mathlib.Core.Bool.{Bool, true, false, ◌&&◌, ◌||◌, not}
use mathlib.Core.List.Memᴰ
use mathlib.Core.List.{List, [], ◌∷◌, ◌++◌, map, reverse, Memᴰ, append-nil}
use mathlib.Core.Option.{some}
use lib.Dec.{T, eqb, leb, eqb→eq, leb→le, le→leb}
use lib.ListN.{length, get_or}
use Rattle.plan.specs.Lists.{sum, times, numbered}
use Rattle.plan.specs.Sheet.{Step, step_at}
use Rattle.plan.specs.Faults.{named}
use Rattle.plan.specs.Graph.{Edge, sinks, is_cache, most_places}
use Rattle.plan.specs.Visit.{is_into, is_out_of}
use Rattle.plan.proofs.ListLaws.{sum_append, and_left}
use borrow.Author.Tests.{ne_eqb}
use Rattle.plan.proofs.Booleans.{T_eq, equal}
use Rattle.plan.proofs.Counts.{false_of, mem_at, sum_reverse, sum_ones, times_same, times_other, same_number, only, not_both, count, count_none}
use Rattle.claims.proofs.ByLine.{graph, grow, popped, hits, opens, following, edges_into}
use Rattle.claims.specs.Plan.{Plan}
use Rattle.claims.proofs.Plans.{root_there, input_there, cache_named}
use Rattle.claims.proofs.Reached.{followed, followed_le, followed_none, followed_next, all_placed}
use Rattle.claims.proofs.Hits.{hits_named}
use Rattle.claims.proofs.Edges.{outs, intos, same_some}

-- have n's inputs followed, once `past` is gone through? A Cache's follow at its last place
pub opened : List Step → List ℕ → ℕ → Bool
opened ps past n = if is_cache ps n then leb (times n (named ps)) (times n past) else leb 1 (times n past)

-- the places gone through and those that wait: the roots, and the inputs of the steps opened
abbrev pub Counted : List Step → List ℕ → List ℕ → Type 0
Counted ps past waiting = (w : ℕ → ℕ) → sum w past + sum w waiting ≡ sum w (sinks ps) + followed w ps (opened ps past)

abbrev follow : List Step → List ℕ → ℕ → List ℕ
follow ps past n = following ps (popped ps) past n

-- One place more --------------------------------------------------------------------------------------------------------------------

opened_other : (ps : List Step) (past : List ℕ) (m n : ℕ) → m ≢ n → opened ps (n ∷ past) m ≡ opened ps past m
unfolding opened
opened_other ps past m n h = rw (times_other m n past h) refl

module _ (ps : List Step) (plan : Plan ps) where
  -- an opened step has all its places behind it
  used_up : (past waiting : List ℕ) → Counted ps past waiting → (n : ℕ) → T (opened ps past n) → times n waiting ≡ 0
  unfolding opened
  used_up past waiting c n o = by (is_cache ps n) (plan.once n) (cache_named ps plan n) o
    where
      by : (b : Bool) → (T (not b) → times n (sinks ps) + times n (named ps) ≤ 1) → (T b → times n (sinks ps) ≡ 0)
          → T (if b then leb (times n (named ps)) (times n past) else leb 1 (times n past)) → times n waiting ≡ 0
      by true f g o = omega (arith, g tt, leb→le (times n (named ps)) (times n past) o, c (only n), followed_le (only n) ps (opened ps past))
      by false f g o = omega (arith, f tt, leb→le 1 (times n past) o, c (only n), followed_le (only n) ps (opened ps past))

  module _ (past ns : List ℕ) (n : ℕ) (c : Counted ps past (n ∷ ns)) where
    not_yet : opened ps past n ≡ false
    not_yet = false_of (opened ps past n) (λ o. let z = used_up past (n ∷ ns) c n o in omega (arith, times_same n ns))

    -- n is opened here just if it opens here
    opens_here : opened ps (n ∷ past) n ≡ opens ps (popped ps) past n
    unfolding opened opens
    opens_here = rw (times_same n past) (by (is_cache ps n) (cache_named ps plan n) (hits_named ps plan n))
      where
        most : times n past + 1 + times n ns ≤ times n (sinks ps) + times n (named ps)
        most = omega (arith, c (only n), followed_le (only n) ps (opened ps past), times_same n ns)

        by : (b : Bool) → (T b → times n (sinks ps) ≡ 0) → (T b → hits (popped ps) n ≡ times n (named ps))
            → (if b then leb (times n (named ps)) (1 + times n past) else leb 1 (1 + times n past)) ≡ (not b || eqb (times n past + 1) (hits (popped ps) n))
        by true z h =
            T_eq (leb (times n (named ps)) (1 + times n past)) (eqb (times n past + 1) (hits (popped ps) n))
            (λ k. equal (times n past + 1) (hits (popped ps) n) (omega (arith, most, z tt, h tt, leb→le (times n (named ps)) (1 + times n past) k)))
            (λ k. le→leb (times n (named ps)) (1 + times n past) (omega (arith, h tt, eqb→eq (times n past + 1) (hits (popped ps) n) k)))
        by false z h = T_eq (leb 1 (1 + times n past)) true (λ k. tt) (λ k. le→leb 1 (1 + times n past) (omega arith))

    pub counted_next : n < length ps → Counted ps (n ∷ past) (ns ++ follow ps past n)
    unfolding sum following
    counted_next h w =
        let next = rw (not_yet, opens_here) at (followed_next w ps (opened ps past) (opened ps (n ∷ past)) n h (λ m k. opened_other ps past m n k)) in
        omega (arith, next, weighed (opens ps (popped ps) past n) (step_at ps n).inputs, c w, sum_append w ns (follow ps past n))
      where
        weighed : (b : Bool) (l : List ℕ) → (if b then sum w l else 0) ≡ sum w (if b then l else [])
        weighed true l = refl
        weighed false l = refl

-- Inputs stand after their consumers ----------------------------------------------------------------------------------------------------

-- going back from the last place, n is met before c
abbrev pub Later : ℕ → ℕ → List ℕ → Type 0
Later n c [] = ⊥
Later n c (x ∷ past) = (x ≡ n) ⊎ ((x ≢ c) × Later n c past)

-- an edge comes from the input that its slot names
abbrev pub Made : List Step → Edge → Type 0
Made ps d = let inputs = (step_at ps d.consumer).inputs in (d.slot < length inputs) × (d.producer ≡ some (get_or inputs d.slot 0))

record Placed (ps : List Step) (past waiting : List ℕ) (d : Edge) : Type 0 where
  closed : T (opened ps past d.consumer)
  after : (m : ℕ) → d.producer ≡ some m → Memᴰ m waiting ⊎ Later m d.consumer past
  made : Made ps d

-- an edge into a slot of c
abbrev pub is_slot : ℕ → ℕ → Edge → Bool
is_slot c k d = is_into c d && eqb d.slot k

abbrev pub into_slot : ℕ → ℕ → List Edge → ℕ
into_slot c k ds = count (is_slot c k) ds

-- of the edges made so far
record Grown (ps : List Step) (past waiting : List ℕ) (es : List Edge) : Type 0 where
  placed : (d : Edge) → Memᴰ d es → Placed ps past waiting d
  leaving : (n : ℕ) → times n (sinks ps) + outs n es ≡ times n past + times n waiting
  entering : (n : ℕ) → T (not (is_cache ps n)) → length (step_at ps n).inputs ≡ 1 → intos n es ≡ times n past
  single : (c k : ℕ) → into_slot c k es ≤ 1

-- the edges made for a step's inputs
abbrev made_for : ℕ → ℕ → List ℕ → List Edge
made_for n k ms = map (λ (j, m). record { consumer = n; slot = j; producer = some m; unordered = false }) (numbered k ms)

new_edge : (n k : ℕ) (ms : List ℕ) (d : Edge) → Memᴰ d (made_for n k ms)
    → (j : ℕ) × (j < length ms) × (d.consumer ≡ n) × (d.slot ≡ k + j) × (d.producer ≡ some (get_or ms j 0))
unfolding numbered
new_edge n k [] d i = absurd (Memᴰ.not-nil i)
new_edge n k (x ∷ ms) d i =
    elim (Memᴰ.cases_cons i) [
      | inl e ↦ (0, omega arith, ap (λ (y : Edge). y.consumer) e, omega (arith, ap (λ (y : Edge). y.slot) e), ap (λ (y : Edge). y.producer) e)
      | inr i' ↦ let (j, h, c, s, p) = new_edge n (suc k) ms d i' in (suc j, omega arith, c, omega arith, p)
    ]

outs_made : (n m k : ℕ) (ms : List ℕ) → outs n (made_for m k ms) ≡ times n ms
unfolding numbered sum
outs_made n m k [] = refl
outs_made n m k (x ∷ ms) =
    rw (T_eq (eqb x n) (eqb n x) (λ t. equal n x (sym (eqb→eq x n t))) (λ t. equal x n (sym (eqb→eq n x t)))) (omega (arith, outs_made n m (suc k) ms))

intos_made : (n m k : ℕ) (ms : List ℕ) → intos n (made_for m k ms) ≡ (if eqb m n then length ms else 0)
unfolding numbered sum
intos_made n m k [] = by (eqb m n)
  where
    by : (b : Bool) → ◌≡◌ {A = ℕ} 0 (if b then 0 else 0)
    by true = refl
    by false = refl
intos_made n m k (x ∷ ms) = by (eqb m n) (intos_made n m (suc k) ms)
  where
    by : (b : Bool) → intos n (made_for m (suc k) ms) ≡ (if b then length ms else 0)
        → (if b then 1 else 0) + intos n (made_for m (suc k) ms) ≡ (if b then suc (length ms) else 0)
    by true e = omega arith
    by false e = omega arith

-- one for each slot, from j on
slots_made : (c k n j : ℕ) (ms : List ℕ) → (into_slot c k (made_for n j ms) ≤ 1) × (k < j → into_slot c k (made_for n j ms) ≡ 0)
unfolding numbered sum
slots_made c k n j [] = (omega arith, λ _. refl)
slots_made c k n j (x ∷ ms) = by (eqb n c) (ℕ_discrete j k) (slots_made c k n (suc j) ms)
  where
    by : (b : Bool) → Dec (j ≡ k) → (into_slot c k (made_for n (suc j) ms) ≤ 1) × (k < suc j → into_slot c k (made_for n (suc j) ms) ≡ 0)
        → ((if b && eqb j k then 1 else 0) + into_slot c k (made_for n (suc j) ms) ≤ 1)
        × (k < j → (if b && eqb j k then 1 else 0) + into_slot c k (made_for n (suc j) ms) ≡ 0)
    by b (no e) (f, g) = rw (ne_eqb j k e) (nothing b f, λ h. none b (g (omega arith)))
      where
        nothing : (b : Bool) {m : ℕ} → m ≤ 1 → (if b && false then 1 else 0) + m ≤ 1
        nothing true h = omega arith
        nothing false h = omega arith

        none : (b : Bool) {m : ℕ} → m ≡ 0 → (if b && false then 1 else 0) + m ≡ 0
        none true h = omega arith
        none false h = omega arith
    by true (yes e) (f, g) = (part (eqb j k) (g (omega arith)), λ h. absurd (omega arith))
      where
        part : (a : Bool) {m : ℕ} → m ≡ 0 → (if a then 1 else 0) + m ≤ 1
        part true h = omega arith
        part false h = omega arith
    by false (yes e) (f, g) = (omega arith, λ h. absurd (omega arith))

slots_other : (c k n j : ℕ) (ms : List ℕ) → c ≢ n → into_slot c k (made_for n j ms) ≡ 0
unfolding numbered sum
slots_other c k n j [] h = refl
slots_other c k n j (x ∷ ms) h = rw (ne_eqb n c (λ e. h (sym e))) (omega (arith, slots_other c k n (suc j) ms h))

-- p: the visiting list, the last place first
abbrev Result : List Step → List ℕ × List Edge → Type 0
Result ps (l, ds) = (p : List ℕ) × (l ≡ reverse p) × Counted ps p [] × Grown ps p [] ds

module _ (ps : List Step) (plan : Plan ps) where
  module _ (past ns : List ℕ) (n : ℕ) (c₀ : Counted ps past (n ∷ ns)) where
    abbrev ms : List ℕ
    ms = follow ps past n

    old_edge : (d : Edge) → Placed ps past (n ∷ ns) d → Placed ps (n ∷ past) (ns ++ ms) d
    old_edge d k =
        let z = used_up ps plan past (n ∷ ns) c₀ d.consumer k.closed in
        let apart : d.consumer ≢ n = λ e. let y = subst (λ x. times x (n ∷ ns) ≡ 0) e z in omega (arith, times_same n ns) in
        record {
          closed = subst T (sym (opened_other ps past d.consumer n apart)) k.closed;
          after =
              λ m e.
              elim (k.after m e) [
                | inl w ↦ elim (Memᴰ.cases_cons w) [ inl i ↦ inr (inl (sym i)) | inr w' ↦ inl (Memᴰ.append_left ms w') ]
                | inr l ↦ inr (inr ((λ i. apart (sym i)), l))
              ];
          made = k.made;
        }

    made_edge : (d : Edge) → Memᴰ d (edges_into n ms) → Placed ps (n ∷ past) (ns ++ ms) d
    unfolding edges_into following
    made_edge d i =
        let (j, h, c, s, p) = new_edge n 0 ms d i in
        let (o, l, q) = it_opens (opens ps (popped ps) past n) j h in
        record {
          closed = subst (λ x. T (opened ps (n ∷ past) x)) (sym c) (subst T (sym (opens_here ps plan past ns n c₀)) o);
          after = λ m e. inl (Memᴰ.append_right ns (subst (λ x. Memᴰ x ms) (same_some (sym p ∙ e)) (mem_at ms j 0 h)));
          made = rw (c, s) (omega arith, p ∙ ap some q);
        }
      where
        it_opens : (b : Bool) (j : ℕ) → j < length (if b then (step_at ps n).inputs else [])
            → T b × (j < length (step_at ps n).inputs) × (get_or (if b then (step_at ps n).inputs else []) j 0 ≡ get_or (step_at ps n).inputs (0 + j) 0)
        it_opens true j h = (tt, h, ap (λ k. get_or (step_at ps n).inputs k 0) (omega arith))
        it_opens false j h = absurd (not-suc-le-zero h)

    -- a step with one input, that is no Cache, opens at its place
    one_follows : (m : ℕ) → T (not (is_cache ps m)) → length (step_at ps m).inputs ≡ 1
        → ◌≡◌ {A = ℕ} (if eqb n m then length ms else 0) (only m n)
    unfolding following opens
    one_follows m h l = by (ℕ_discrete m n)
      where
        opens_now : (b : Bool) → T (not b) → length (if not b || eqb (times m past + 1) (hits (popped ps) m) then (step_at ps m).inputs else []) ≡ 1
        opens_now true h = absurd h
        opens_now false h = l

        by : Dec (m ≡ n) → ◌≡◌ {A = ℕ} (if eqb n m then length ms else 0) (only m n)
        by (yes i) =
            subst (λ x. ◌≡◌ {A = ℕ} (if eqb x m then length (follow ps past x) else 0) (only m x)) i
            (rw (same_number m) (opens_now (is_cache ps m) h))
        by (no k) = rw (ne_eqb m n k, ne_eqb n m (λ e. k (sym e)))

    -- n has no edges yet
    slots_next : (es : List Edge) → Grown ps past (n ∷ ns) es → (c j : ℕ) → Dec (c ≡ n) → into_slot c j es + into_slot c j (made_for n 0 ms) ≤ 1
    slots_next es k c j (no h) = omega (arith, k.single c j, slots_other c j n 0 ms h)
    slots_next es k c j (yes e) =
        let none : into_slot c j es ≡ 0 = count_none (is_slot c j) es (λ d m. false_of (is_slot c j d) (λ t.
        let i = eqb→eq d.consumer c (and_left (is_into c d) (eqb d.slot j) t) in
        not_both (opened ps past n) (subst (λ x. T (opened ps past x)) (i ∙ e) (k.placed d m).closed) (not_yet ps plan past ns n c₀))) in
        omega (arith, none, (slots_made c j n 0 ms).0)

    grown_next : (es : List Edge) → Grown ps past (n ∷ ns) es → Grown ps (n ∷ past) (ns ++ ms) (es ++ edges_into n ms)
    unfolding edges_into sum
    grown_next es k =
        record {
          placed = λ d i. elim (Memᴰ.append_cases es i) [ inl j ↦ old_edge d (k.placed d j) | inr j ↦ made_edge d j ];
          leaving =
              λ m.
              omega (
                arith,
                k.leaving m,
                sum_append (λ (d : Edge). if is_out_of m d then 1 else 0) es (made_for n 0 ms),
                sum_append (only m) ns ms,
                outs_made m n 0 ms,
              );
          entering =
              λ m h l.
              omega (arith, k.entering m h l, sum_append (λ (d : Edge). if is_into m d then 1 else 0) es (made_for n 0 ms), intos_made m n 0 ms, one_follows m h l);
          single = λ c j. omega (arith, sum_append (λ (d : Edge). if is_slot c j d then 1 else 0) es (made_for n 0 ms), slots_next es k c j (ℕ_discrete c n));
        }

  ordered : (f : ℕ) (past waiting : List ℕ) (es : List Edge) → length past + f ≡ most_places ps → Counted ps past waiting
      → ((n : ℕ) → Memᴰ n waiting → n < length ps) → Grown ps past waiting es → Result ps (grow f ps (popped ps) past waiting es)
  unfolding grow sum following
  ordered zero past [] es h c r k = subst (λ l. Result ps (l, es)) (sym (append-nil (reverse past))) (past, refl, c, k)
  ordered zero past (n ∷ ns) es h c r k =
      absurd (omega (arith, c (λ _. 1), followed_le (λ _. 1) ps (opened ps past), sum_ones past, sum_ones (sinks ps), sum_ones (named ps)))
  ordered (suc f) past [] es h c r k = (past, refl, c, k)
  ordered (suc f) past (n ∷ ns) es h c r k =
      ordered f (n ∷ past) (ns ++ follow ps past n) (es ++ edges_into n (follow ps past n)) (omega arith)
      (counted_next ps plan past ns n c (r n (Memᴰ.head refl)))
      (λ m i. elim (Memᴰ.append_cases ns i) [ inl j ↦ r m (Memᴰ.tail j) | inr j ↦ in_range m (opens ps (popped ps) past n) j ])
      (grown_next past ns n c es k)
    where
      in_range : (m : ℕ) (b : Bool) → Memᴰ m (if b then (step_at ps n).inputs else []) → m < length ps
      in_range m true j = input_there ps plan n m j
      in_range m false j = absurd (Memᴰ.not-nil j)

  -- before the first place nothing is opened: a Cache is named
  pub none_opened : (n : ℕ) → opened ps [] n ≡ false
  unfolding opened sum
  none_opened n = by (is_cache ps n) (λ t. plan.cache_used n t)
    where
      by : (b : Bool) → (T b → 1 ≤ times n (named ps)) → (if b then leb (times n (named ps)) 0 else false) ≡ false
      by true u = false_of (leb (times n (named ps)) 0) (λ k. let z = leb→le (times n (named ps)) 0 k in omega (arith, u tt))
      by false u = refl

  result : Result ps (graph ps)
  unfolding graph sum
  result =
      ordered (most_places ps) [] (sinks ps) [] (omega arith) (λ w. omega (arith, followed_none w ps (opened ps []) none_opened))
      (root_there ps plan) (record { placed = λ d i. absurd (Memᴰ.not-nil i); leaving = λ n. omega arith; entering = λ n h l. refl; single = λ c k. omega arith })

-- The visiting list and the edges ---------------------------------------------------------------------------------------------------------

pub record Ordered (ps : List Step) (places : List ℕ) (es : List Edge) : Type 0 where
  pub back : List ℕ  -- the places, the last one first
  pub reversed : places ≡ reverse back
  -- every root and every naming has a place
  pub placed_all : (w : ℕ → ℕ) → sum w places ≡ sum w (sinks ps) + sum w (named ps)
  pub made : (d : Edge) → Memᴰ d es → Made ps d
  -- the producer stands after the consumer
  pub after : (d : Edge) → Memᴰ d es → (m : ℕ) → d.producer ≡ some m → Later m d.consumer back
  -- an edge for each place but a root's, and one into each place of a step with one input
  pub leaving : (n : ℕ) → times n (sinks ps) + outs n es ≡ times n places
  pub entering : (n : ℕ) → T (not (is_cache ps n)) → length (step_at ps n).inputs ≡ 1 → intos n es ≡ times n places
  -- no two into one slot
  pub single : (c k : ℕ) → into_slot c k es ≤ 1

pub graph_ordered : (ps : List Step) → Plan ps → Ordered ps (graph ps).0 (graph ps).1
unfolding opened sum
graph_ordered ps plan =
    let (p, i, c, g) = result ps plan in
    let all = all_placed ps plan p (opened ps p) (λ w. omega (arith, c w)) (λ n l e. elim (plan.rooted n l) [ inl h ↦ inl (by n (is_cache ps n) p e h) | inr j ↦ inr j ]) in
    let times_in : (n : ℕ) → times n (graph ps).0 ≡ times n p = λ n. rw i (sum_reverse (only n) p) in
    record {
      back = p;
      reversed = i;
      placed_all = λ w. rw i (sum_reverse w p ∙ all w);
      made = λ d m. (g.placed d m).made;
      after = λ d m k e. elim ((g.placed d m).after k e) [ inl w ↦ absurd (Memᴰ.not-nil w) | inr l ↦ l ];
      leaving = λ n. omega (arith, g.leaving n, times_in n);
      entering = λ n h l. g.entering n h l ∙ sym (times_in n);
      single = g.single;
    }
  where
    by : (n : ℕ) (b : Bool) (p : List ℕ) → times n p ≡ times n (sinks ps) + times n (named ps) → 1 ≤ times n (sinks ps) + times n (named ps)
        → T (if b then leb (times n (named ps)) (times n p) else leb 1 (times n p))
    by n true p e r = le→leb (times n (named ps)) (times n p) (omega arith)
    by n false p e r = le→leb 1 (times n p) (omega arith)
