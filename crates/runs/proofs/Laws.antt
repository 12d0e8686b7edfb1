-- The laws of a run: one step, two lists joined, what stays, a run seen from another, and that what the code ran is the run.
-- Assumes nothing.
use mathlib.Core.List.{List, [], ◌∷◌, ◌++◌, map, flatten, append_assoc, map-append, map-id}
use mathlib.Core.Path.{◌≡◌, refl, sym, ap, ◌∙◌}
use Rattle.runs.specs.Run.{one, end, gathered, outputs, Ran}

module _ {I S : Type 0} (next : I → S → S) where
  -- one step
  pub one_end : (i : I) (is : List I) (s : S) → end next (i ∷ is) s ≡ end next is (next i s)
  unfolding end
  one_end i is s = refl

  pub one_gathered : {O : Type 0} (tell : I → S → List O) (i : I) (is : List I) (s : S)
      → gathered next tell (i ∷ is) s ≡ tell i s ++ gathered next tell is (next i s)
  unfolding gathered
  one_gathered tell i is s = refl

  -- two lists joined: the second on what the first one left
  pub end_joined : (is js : List I) (s : S) → end next (is ++ js) s ≡ end next js (end next is s)
  unfolding end
  end_joined [] js s = refl
  end_joined (i ∷ is) js s = end_joined is js (next i s)

  pub gathered_joined : {O : Type 0} (tell : I → S → List O) (is js : List I) (s : S)
      → gathered next tell (is ++ js) s ≡ gathered next tell is s ++ gathered next tell js (end next is s)
  unfolding gathered end
  gathered_joined tell [] js s = refl
  gathered_joined tell (i ∷ is) js s = rw (gathered_joined tell is js (next i s)) (sym (append_assoc (tell i s) _ _))

  -- an input that leaves the state as it was may be left out, and two that leave the same state stand for each other
  pub left_out : (before after : List I) (i : I) (s : S) → next i (end next before s) ≡ end next before s
      → end next (before ++ i ∷ after) s ≡ end next (before ++ after) s
  unfolding end
  left_out before after i s e = end_joined before (i ∷ after) s ∙ (ap (end next after) e ∙ sym (end_joined before after s))

  pub exchanged : (before after : List I) (i j : I) (s : S) → next i (end next before s) ≡ next j (end next before s)
      → end next (before ++ i ∷ after) s ≡ end next (before ++ j ∷ after) s
  unfolding end
  exchanged before after i j s e = end_joined before (i ∷ after) s ∙ (ap (end next after) e ∙ sym (end_joined before (j ∷ after) s))

  -- what each step keeps holds in the end
  pub kept : (P : S → Type 0) → ((i : I) (s : S) → P s → P (next i s)) → (is : List I) (s : S) → P s → P (end next is s)
  unfolding end
  kept P step [] s p = p
  kept P step (i ∷ is) s p = kept P step is (next i s) (step i s p)

  -- many inputs at once, again and again, are all of them one by one
  pub end_flat : (iss : List (List I)) (s : S) → end (end next) iss s ≡ end next (flatten iss) s
  unfolding end flatten
  end_flat [] s = refl
  end_flat (is ∷ iss) s = end_flat iss (end next is s) ∙ sym (end_joined is (flatten iss) s)

  pub gathered_flat : {O : Type 0} (tell : I → S → List O) (iss : List (List I)) (s : S)
      → gathered (end next) (gathered next tell) iss s ≡ gathered next tell (flatten iss) s
  unfolding gathered flatten
  gathered_flat tell [] s = refl
  gathered_flat tell (is ∷ iss) s = rw (gathered_flat tell iss (end next is s)) (sym (gathered_joined tell is (flatten iss) s))

  -- each of the things told, made into another
  pub gathered_mapped : {O P : Type 0} (f : O → P) (tell : I → S → List O) (is : List I) (s : S)
      → map f (gathered next tell is s) ≡ gathered next (λ i s. map f (tell i s)) is s
  unfolding gathered
  gathered_mapped f tell [] s = refl
  gathered_mapped f tell (i ∷ is) s = map-append f (tell i s) (gathered next tell is (next i s)) ∙ rw (gathered_mapped f tell is (next i s))

-- A run seen from another: through the view, each step is a run of the other, by the inputs that it tells.
module _ {I S J T : Type 0} (next : I → S → S) (other : J → T → T) (view : S → T) (tells : I → S → List J)
    (step : (i : I) (s : S) → view (next i s) ≡ end other (tells i s) (view s)) where
  pub end_seen : (is : List I) (s : S) → view (end next is s) ≡ end other (gathered next tells is s) (view s)
  unfolding end gathered
  end_seen [] s = refl
  end_seen (i ∷ is) s =
      end_seen is (next i s) ∙
      (ap (end other (gathered next tells is (next i s))) (step i s) ∙ sym (end_joined other (tells i s) (gathered next tells is (next i s)) (view s)))

  -- and what the other one tells, if an input tells what those that it hands on do
  pub gathered_seen : {O : Type 0} (tell : I → S → List O) (also : J → T → List O)
      → ((i : I) (s : S) → tell i s ≡ gathered other also (tells i s) (view s))
      → (is : List I) (s : S) → gathered next tell is s ≡ gathered other also (gathered next tells is s) (view s)
  unfolding gathered
  gathered_seen tell also same [] s = refl
  gathered_seen {O = O} tell also same (i ∷ is) s =
      rw (same i s, gathered_seen tell also same is (next i s), step i s)
      (sym (gathered_joined other also (tells i s) (gathered next tells is (next i s)) (view s)))

-- the same with one input for each
module _ {I S J T : Type 0} (next : I → S → S) (other : J → T → T) (view : S → T) (of : I → J)
    (step : (i : I) (s : S) → view (next i s) ≡ other (of i) (view s)) where
  pub end_alike : (is : List I) (s : S) → view (end next is s) ≡ end other (map of is) (view s)
  unfolding end
  end_alike [] s = refl
  end_alike (i ∷ is) s = end_alike is (next i s) ∙ ap (end other (map of is)) (step i s)

  pub gathered_alike : {O : Type 0} (tell : I → S → List O) (also : J → T → List O)
      → ((i : I) (s : S) → tell i s ≡ also (of i) (view s))
      → (is : List I) (s : S) → gathered next tell is s ≡ gathered other also (map of is) (view s)
  unfolding gathered
  gathered_alike tell also same [] s = refl
  gathered_alike tell also same (i ∷ is) s = rw (same i s, gathered_alike tell also same is (next i s), step i s)

  -- one thing each, through a view of it
  pub outputs_alike : {O P : Type 0} (f : O → P) (out : I → S → O) (also : J → T → P) → ((i : I) (s : S) → f (out i s) ≡ also (of i) (view s))
      → (is : List I) (s : S) → map f (outputs next out is s) ≡ outputs other also (map of is) (view s)
  outputs_alike {P = P} f out also same is s =
      gathered_mapped next f (one out) is s ∙ gathered_alike (one (λ i s. f (out i s))) (one also) (λ i s. ap (λ (p : P). p ∷ []) (same i s)) is s

-- the same with the same inputs: a state with more in it, of which the rest is forgotten
module _ {I S T : Type 0} (next : I → S → S) (other : I → T → T) (view : S → T) (step : (i : I) (s : S) → view (next i s) ≡ other i (view s)) where
  pub end_forgets : (is : List I) (s : S) → view (end next is s) ≡ end other is (view s)
  end_forgets is s = rw map-id at (end_alike next other view (λ i. i) step is s)

  pub outputs_forgets : {O P : Type 0} (f : O → P) (out : I → S → O) (also : I → T → P) → ((i : I) (s : S) → f (out i s) ≡ also i (view s))
      → (is : List I) (s : S) → map f (outputs next out is s) ≡ outputs other also is (view s)
  outputs_forgets f out also same is s = rw map-id at (outputs_alike next other view (λ i. i) step f out also same is s)

-- A run of the code is one call and a run on what it left;
module _ {I S O M : Type 0} (result : I → S → O) (left : O → S → S) (made : M → O) where
  abbrev next : I → S → S
  next i s = left (result i s) s

  pub one_ran : (i : I) (is : List I) (s u : S) (m : M) (ms : List M) → Ran result left made (i ∷ is) s (m ∷ ms) u
      → (made m ≡ result i s) × Ran result left made is (left (made m) s) ms u
  unfolding Ran
  one_ran i is s u m ms r = r

  -- it is the run;
  pub as_the_run : (is : List I) (s u : S) (ms : List M) → Ran result left made is s ms u → (map made ms ≡ outputs next result is s) × (u ≡ end next is s)
  unfolding Ran gathered end
  as_the_run [] s u [] r = (refl, sym r)
  as_the_run [] s u (m ∷ ms) r = absurd r
  as_the_run (i ∷ is) s u [] r = absurd r
  as_the_run (i ∷ is) s u (m ∷ ms) r =
      let rest = as_the_run is (left (made m) s) u ms r.1 in
      rw (← r.0) (rw rest.0, rest.1)

  -- and there is one, if for each input some call comes back with its result.
  pub can_be_run : (some : I → S → M) → ((i : I) (s : S) → made (some i s) ≡ result i s)
      → (is : List I) (s : S) → Ran result left made is s (outputs next some is s) (end next is s)
  unfolding Ran gathered end
  can_be_run some met [] s = refl
  can_be_run some met (i ∷ is) s = (met i s, rw (met i s) (can_be_run some met is (next i s)))

-- And a run of code that does more is, with the rest forgotten, a run of the code that does less.
module _ {I S O M T P N : Type 0} (result : I → S → O) (left : O → S → S) (made : M → O) (less : I → T → P) (leaves : P → T → T) (came : N → P)
    (view : S → T) (f : O → P) (of : M → N) (same-made : (m : M) → f (made m) ≡ came (of m)) (same-result : (i : I) (s : S) → f (result i s) ≡ less i (view s))
    (same_left : (r : O) (s : S) → view (left r s) ≡ leaves (f r) (view s)) where
  pub ran_forgets : (is : List I) (s u : S) (ms : List M) → Ran result left made is s ms u → Ran less leaves came is (view s) (map of ms) (view u)
  unfolding Ran
  ran_forgets [] s u [] r = ap view r
  ran_forgets [] s u (m ∷ ms) r = absurd r
  ran_forgets (i ∷ is) s u [] r = absurd r
  ran_forgets (i ∷ is) s u (m ∷ ms) r = (sym (same-made m) ∙ (ap f r.0 ∙ same-result i s), rw (same_left (made m) s, same-made m) at (ran_forgets is (left (made m) s) u ms r.1))
