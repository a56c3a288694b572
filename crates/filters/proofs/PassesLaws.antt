-- The laws of passes over a picture: what a pass keeps, which numbers fit after it, passes after passes, pictures that agree, and the passes of a
-- list run one by one. And of passes over rows: each row is lifted by itself, whatever the other rows hold and however many there are.
-- Assumes nothing.
use mathlib.Core.Path.{◌≡◌, refl, sym, ap, ◌∙◌}
use mathlib.Core.Bool.{Bool, true, false, not, ◌&&◌, and_assoc, ◌||◌}
use mathlib.Core.List.{List, [], ◌∷◌, ◌++◌, map}
use Prim.Native.Nat.{ℕ, suc, ◌+◌, ◌<◌, zero}
use native.Mathlib.Numerals.{add-one}
use native.Mathlib.Omega.{arith}
use lib.ListN.{length, get_or, take, drop}
use lib.Seq.{take-suc, split_at}
use Rattle.base.specs.Every.{all_below}
use Rattle.base.specs.Range.{fits32}
use Rattle.base.proofs.EveryLaws.{all-at, all_from, all_same}
use Rattle.base.proofs.Booleans.{and_left, and_right, and-true}
use Rattle.filters.specs.Pictures.{Agree}
use Rattle.filters.specs.Passes.{Picture, Pass, columns, rows, halve, double, run, run_all, assigns, new_fit, all_new_fit}
use Rattle.filters.proofs.LiftingLaws.{EvenLength, lift-same, lift-keeps}
use Rattle.base.proofs.Parity.{all-and}
use Rattle.filters.specs.Lifting.{Line, Step, lift}

-- The first h rows and w columns of a picture fit signed 32 bits.
abbrev pub AllFit : ℕ → ℕ → Picture → Type 0
AllFit h w P = (row column : ℕ) → row < h → column < w → fits32 (P row column) ≡ true

-- an implication as a test
implies : (a b : Bool) → (a ≡ true → b ≡ true) → not a || b ≡ true
implies true b f = f refl
implies false b f = refl

-- a test that passes whether another does or not
either : (a b : Bool) → (a ≡ true → b ≡ true) → (a ≡ false → b ≡ true) → b ≡ true
either true b f g = f refl
either false b f g = g refl

-- Whether an element fits if the pass assigns it.
abbrev new_test : Pass → Picture → ℕ → ℕ → Bool
new_test p P row column = not (assigns p row column) || fits32 (P row column)

module _ (h w : ℕ) where
  -- passes after passes
  pub run_all-append : (ps qs : List Pass) (P : Picture) → run_all h w (ps ++ qs) P ≡ run_all h w qs (run_all h w ps P)
  unfolding run_all
  run_all-append [] qs P = refl
  run_all-append (p ∷ ps) qs P = run_all-append ps qs (run h w p P)

  -- and the test of their new numbers
  pub all_new_fit-append :
      (ps qs : List Pass) (P : Picture)
      → all_new_fit h w (ps ++ qs) P ≡ all_new_fit h w ps P && all_new_fit h w qs (run_all h w ps P)
  unfolding run_all all_new_fit
  all_new_fit-append [] qs P = refl
  all_new_fit-append (p ∷ ps) qs P =
      rw (all_new_fit-append ps qs (run h w p P)) (sym (and_assoc (new_fit h w p (run h w p P)) (all_new_fit h w ps (run h w p P)) _))

  -- The new numbers of a pass fit, element by element.
  abbrev pub EachNewFits : Pass → Picture → Type 0
  EachNewFits p P = (row column : ℕ) → row < h → column < w → assigns p row column ≡ true → fits32 (P row column) ≡ true

  -- from the test of a pass's new numbers to each of them
  pub new-each : (p : Pass) (P : Picture) → new_fit h w p P ≡ true → EachNewFits p P
  unfolding new_fit
  new-each p P e row column r c assigned =
      let of_row = all-at (λ k. all_below w (new_test p P k)) h row e r in
      let of_element = all-at (new_test p P row) w column of_row c in
      rw assigned at of_element

  -- and back
  pub new-all : (p : Pass) (P : Picture) → EachNewFits p P → new_fit h w p P ≡ true
  unfolding new_fit
  new-all p P each =
      all_from (λ k. all_below w (new_test p P k)) h
      (λ row r. all_from (new_test p P row) w
      (λ column c. implies (assigns p row column) (fits32 (P row column)) (each row column r c)))

  -- an element that a pass does not assign stays
  pub run-keeps : (p : Pass) (P : Picture) (row column : ℕ) → assigns p row column ≡ false → run h w p P row column ≡ P row column
  unfolding run assigns
  run-keeps (columns s) P row column kept = lift-keeps s h (λ r. P r column) row kept
  run-keeps (rows s) P row column kept = lift-keeps s w (P row) column kept
  run-keeps halve P row column kept = cc
  run-keeps double P row column kept = cc

  -- where all numbers fit before a pass, and its new numbers fit, all fit after it
  pub run_fits : (p : Pass) (P : Picture) → AllFit h w P → new_fit h w p (run h w p P) ≡ true → AllFit h w (run h w p P)
  run_fits p P fit new row column r c =
      either (assigns p row column) (fits32 (run h w p P row column)) (new-each p (run h w p P) new row column r c)
      (λ kept. rw (run-keeps p P row column kept) (fit row column r c))

  -- and so it is with passes
  pub run_all-fits : (ps : List Pass) (P : Picture) → AllFit h w P → all_new_fit h w ps P ≡ true → AllFit h w (run_all h w ps P)
  unfolding run_all all_new_fit
  run_all-fits [] P fit new = fit
  run_all-fits (p ∷ ps) P fit new =
      run_all-fits ps (run h w p P) (run_fits p P fit (and_left _ _ new)) (and_right (new_fit h w p (run h w p P)) _ new)

  -- the new numbers of a pass fit alike in pictures that agree
  pub new-same : (p : Pass) (P Q : Picture) → Agree h w P Q → new_fit h w p P ≡ new_fit h w p Q
  unfolding new_fit
  new-same p P Q same =
      all_same (λ row. all_below w (new_test p P row)) (λ row. all_below w (new_test p Q row)) h
      (λ row r. all_same (new_test p P row) (new_test p Q row) w (λ column c. rw (same row column r c)))

  -- The passes of a list up to pass k were run, and the picture Q is what they made of P; p is pass k.
  module _
      (ps : List Pass) (k : ℕ) (p : Pass) (P Q : Picture)
      (inside : k < length ps)
      (is : get_or ps k p ≡ p)
      (same : (A B : Picture) → Agree h w A B → Agree h w (run h w p A) (run h w p B))
      (fits : all_new_fit h w (take k ps) P ≡ true)
      (made : Agree h w Q (run_all h w (take k ps) P))
    where
      -- pass k too, if its new numbers fit
      pub passes-more :
          (Q' : Picture) → new_fit h w p (run h w p Q) ≡ true → Agree h w Q' (run h w p Q)
          → (all_new_fit h w (take (k + 1) ps) P ≡ true) × Agree h w Q' (run_all h w (take (k + 1) ps) P)
      unfolding run_all all_new_fit
      passes-more Q' new result =
          let longer : take (k + 1) ps ≡ take k ps ++ (p ∷ []) = rw (add-one k) (take-suc ps k p inside ∙ rw is) in
          let after = same Q (run_all h w (take k ps) P) made in (
            rw longer
                (all_new_fit-append (take k ps) (p ∷ []) P
                ∙ and-true _ _ fits (and-true _ true (sym (new-same p _ _ after) ∙ new) refl)),
            λ row column r c. rw (longer, run_all-append (take k ps) (p ∷ []) P) (result row column r c ∙ after row column r c),
          )

      -- if not, the new numbers of the list do not
      pub passes-stop : new_fit h w p (run h w p Q) ≡ false → all_new_fit h w ps P ≡ false
      unfolding all_new_fit
      passes-stop failed =
          let whole : ps ≡ take k ps ++ p ∷ drop (suc k) ps = split_at ps k p inside ∙ rw is in
          let after = same Q (run_all h w (take k ps) P) made in
          ap (λ l. all_new_fit h w l P) whole
          ∙ all_new_fit-append (take k ps) (p ∷ drop (suc k) ps) P
          ∙ rw (fits, ← new-same p (run h w p Q) (run h w p (run_all h w (take k ps) P)) after, failed)

module _ (h w : ℕ) (tall : EvenLength h) (wide : EvenLength w) where
  -- pictures that agree agree after a pass
  pub run-same : (p : Pass) (P Q : Picture) → Agree h w P Q → Agree h w (run h w p P) (run h w p Q)
  unfolding run
  run-same (columns s) P Q same row column r c =
      lift-same h tall s (λ k. P k column) (λ k. Q k column) (λ k inside. same k column inside c) row r
  run-same (rows s) P Q same row column r c = lift-same w wide s (P row) (Q row) (λ k inside. same row k r inside) column c
  run-same halve P Q same row column r c = rw (same row column r c)
  run-same double P Q same row column r c = rw (same row column r c)

  -- and after passes
  pub run_all-same : (ps : List Pass) (P Q : Picture) → Agree h w P Q → Agree h w (run_all h w ps P) (run_all h w ps Q)
  unfolding run_all
  run_all-same [] P Q same = same
  run_all-same (p ∷ ps) P Q same = run_all-same ps (run h w p P) (run h w p Q) (run-same p P Q same)

  -- and the new numbers fit alike
  pub all_new_fit-same : (ps : List Pass) (P Q : Picture) → Agree h w P Q → all_new_fit h w ps P ≡ true → all_new_fit h w ps Q ≡ true
  unfolding all_new_fit
  all_new_fit-same [] P Q same new = refl
  all_new_fit-same (p ∷ ps) P Q same new =
      let after = run-same p P Q same in
      and-true _ _ (sym (new-same h w p (run h w p P) (run h w p Q) after) ∙ and_left _ _ new)
      (all_new_fit-same ps (run h w p P) (run h w p Q) after (and_right (new_fit h w p (run h w p P)) _ new))

module _ (w : ℕ) where
  -- a row of a picture, lifted, is the row of any picture that has the same row
  rows_at :
      (g h : ℕ) (steps : List Step) (P Q : Picture) (i j : ℕ) → P i ≡ Q j
      → run_all g w (map rows steps) P i ≡ run_all h w (map rows steps) Q j
  unfolding run run_all
  rows_at g h [] P Q i j same = same
  rows_at g h (s ∷ steps) P Q i j same = rows_at g h steps (run g w (rows s) P) (run h w (rows s) Q) i j (ap (lift s w) same)

  -- the test of the rows' new numbers is the test of each row's
  rows_new : (h : ℕ) (s : Step) (P : Picture) → new_fit h w (rows s) P ≡ all_below h (λ row. new_fit 1 w (rows s) (λ k. P row))
  unfolding new_fit assigns all_below
  rows_new h s P = refl

  pub rows-new-all :
      (h : ℕ) (steps : List Step) (P : Picture)
      → all_new_fit h w (map rows steps) P ≡ all_below h (λ row. all_new_fit 1 w (map rows steps) (λ k. P row))
  unfolding run all_new_fit
  rows-new-all h [] P = sym (all_from (λ k. true) h (λ k inside. refl))
  rows-new-all h (s ∷ steps) P =
      rw (rows_new h s (run h w (rows s) P), rows-new-all h steps (run h w (rows s) P))
      (sym (all-and (λ row. new_fit 1 w (rows s) (λ k. lift s w (P row))) (λ row. all_new_fit 1 w (map rows steps) (λ k. lift s w (P row))) h))

  -- and each row's numbers
  pub rows_run :
      (h : ℕ) (steps : List Step) (P : Picture) (row x : ℕ)
      → run_all h w (map rows steps) P row x ≡ run_all 1 w (map rows steps) (λ k. P row) 0 x
  rows_run h steps P row x = ap (λ (A : Line). A x) (rows_at h 1 steps P (λ k. P row) row 0 refl)

-- Pictures of any height that agree, their rows being lifted.
module _ (h w : ℕ) (wide : EvenLength w) where
  -- they agree after a step
  pub rows_same : (s : Step) (P Q : Picture) → Agree h w P Q → Agree h w (run h w (rows s) P) (run h w (rows s) Q)
  unfolding run
  rows_same s P Q same row column r c = lift-same w wide s (P row) (Q row) (λ k inside. same row k r inside) column c

  -- and after steps
  pub rows-run-same : (steps : List Step) (P Q : Picture) → Agree h w P Q → Agree h w (run_all h w (map rows steps) P) (run_all h w (map rows steps) Q)
  unfolding run_all
  rows-run-same [] P Q same = same
  rows-run-same (s ∷ steps) P Q same = rows-run-same steps (run h w (rows s) P) (run h w (rows s) Q) (rows_same s P Q same)

  -- and the new numbers of steps fit alike
  pub rows-fit-same : (steps : List Step) (P Q : Picture) → Agree h w P Q → all_new_fit h w (map rows steps) P ≡ all_new_fit h w (map rows steps) Q
  unfolding all_new_fit
  rows-fit-same [] P Q same = refl
  rows-fit-same (s ∷ steps) P Q same =
      let after = rows_same s P Q same in
      rw (new-same h w (rows s) (run h w (rows s) P) (run h w (rows s) Q) after, rows-fit-same steps (run h w (rows s) P) (run h w (rows s) Q) after)

-- the test of passes, pass by pass
module _ (h w : ℕ) where
  pub each-pass : (ps : List Pass) (P : Picture) (i : ℕ) (p : Pass) → i < length ps → all_new_fit h w ps P ≡ true → new_fit h w (get_or ps i p) (run_all h w (take (suc i) ps) P) ≡ true
  unfolding run_all all_new_fit
  each-pass [] P i p inside all = absurd (omega arith)
  each-pass (q ∷ ps) P zero p inside all = and_left _ _ all
  each-pass (q ∷ ps) P (suc i) p inside all = each-pass ps (run h w q P) i p (omega arith) (and_right (new_fit h w q (run h w q P)) _ all)

  pub all-passes :
      (ps : List Pass) (P : Picture) (p : ℕ → Pass)
      → ((i : ℕ) → i < length ps → new_fit h w (get_or ps i (p i)) (run_all h w (take (suc i) ps) P) ≡ true) → all_new_fit h w ps P ≡ true
  unfolding run_all all_new_fit
  all-passes [] P p each = refl
  all-passes (q ∷ ps) P p each = and-true _ _ (each 0 (omega arith)) (all-passes ps (run h w q P) (λ i. p (suc i)) (λ i inside. each (suc i) (omega arith)))
