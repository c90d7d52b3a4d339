-- What loading, storing, reading and writing come to.
use Rattle.std.specs.Prelude.{Some}
use Prim.Native.Nat.{ℕ, ◌+◌, ◌^◌, ◌<◌}
use mathlib.Core.Path.{◌≡◌, sym, ap, subst, ◌∙◌}
use mathlib.Core.List.{List}
use lib.ListN
use lib.ListN.{get_or}
use lib.IntN.{ℤ, pos}
use Rattle.numbers.specs.Result.{ok, stop}
use Rattle.numbers.specs.Words.{words}
use Rattle.numbers.specs.Areas.{word, put_word}
use Rattle.numbers.proofs.Areas.{words_put, put_whole}
use Rattle.forms.specs.Form.{Form, value}
use Rattle.kernel.specs.File.{load, store, read, write}
use Rattle.kernel.specs.Machine.{place, advance, put, get, cell, keep, perform}
use Rattle.kernel.specs.Machine as Machine
use Rattle.run_ops.specs.declared.State.{State}
use Rattle.run_ops.specs.declared.Layout.{Layout}
use Rattle.run_ops.specs.States.{state}
use Rattle.run_ops.specs.Layout.{layout, cell_at, Whole}
use Rattle.run_ops.proofs.States.{goes_on, stops, put_there}
use Rattle.run_ops.proofs.Index.{found, not_found}

-- an area of which one word was changed
module _ (area : List ℕ) {after : List ℕ} (k v : ℕ) (small : v < 2 ^ 32) (e : after ≡ put_word area k v) where
  pub words_after : words after ≡ ListN.set (words area) k v
  words_after = ap words e ∙ words_put area k v small

  pub whole_after : Whole area → Whole after
  whole_after h = subst Whole (sym e) (put_whole area k v small h)

module _ (l : Layout) (cs : List ℤ) (s : State) (p q : ℕ) where
  abbrev e : Machine.Layout
  e = layout l

  -- register p with the word at a place of the input
  abbrev taking : ℕ → State
  taking v = record { registers = ListN.set s.registers p (Some v); places = s.places }

  took : (ws : List ℕ) (i : ℕ) {at v : ℕ} → at ≡ e.base q + i → v ≡ word l.input.now at → put p (cell e q i) (state s ws) ≡ state (taking v) ws
  unfolding cell word
  took ws i {v} there is = ap (λ w. put p w (state s ws)) (sym (is ∙ ap (λ k. get_or (words l.input.now) k 0) there)) ∙ put_there s ws p v

  -- one more of stream q
  abbrev next : State → State
  next t = record { registers = t.registers; places = ListN.set s.places q (get_or s.places q 0 + 1) }

  -- ---- to a register

  module _ (ws : List ℕ) where
    module _ (f : Form) where
      pub load_sticks : (k : ℕ) → cell_at e q 33 (value f cs) ≡ stop k → perform e cs (load p q f) (state s ws) ≡ stop k
      unfolding perform
      load_sticks k h = stops _ (not_found e q 33 (value f cs) k h)

      pub loads : {at v : ℕ} → cell_at e q 33 (value f cs) ≡ ok at → v ≡ word l.input.now at → perform e cs (load p q f) (state s ws) ≡ ok (state (taking v) ws)
      unfolding perform
      loads {at} h is =
          let i = found e q 33 (value f cs) at h in
          goes_on _ i.number (ap ok (took ws i.index i.there is))

    abbrev here : ℤ
    here = pos (get_or s.places q 0)

    pub read_sticks : (k : ℕ) → cell_at e q 34 here ≡ stop k → perform e cs (read p q) (state s ws) ≡ stop k
    unfolding perform place
    read_sticks k h = stops _ (not_found e q 34 here k h)

    pub reads : {at v : ℕ} → cell_at e q 34 here ≡ ok at → v ≡ word l.input.now at → perform e cs (read p q) (state s ws) ≡ ok (state (next (taking v)) ws)
    unfolding perform place advance
    reads {at} h is =
        let i = found e q 34 here at h in
        goes_on _ i.number (ap (λ t. ok (advance q t)) (took ws i.index i.there is))

  -- ---- to the output

  module _ (area : List ℕ) where
    abbrev before : Machine.State
    before = state s (words area)

    keeps : (i w : ℕ) {at : ℕ} {after : List ℕ} → at ≡ e.base q + i → w < 2 ^ 32 → after ≡ put_word area at w → keep e q i w before ≡ state s (words after)
    unfolding keep
    keeps i w {at} there small is = ap (state s) (sym (words_after area at w small is ∙ ap (λ k. ListN.set (words area) k w) there))

    module _ (w : ℕ) (has : get p before ≡ ok w) where
      module _ (f : Form) where
        pub store_sticks : (k : ℕ) → cell_at e q 33 (value f cs) ≡ stop k → perform e cs (store p q f) before ≡ stop k
        unfolding perform
        store_sticks k h = goes_on _ has (stops _ (not_found e q 33 (value f cs) k h))

        pub stores : {at : ℕ} {after : List ℕ} → cell_at e q 33 (value f cs) ≡ ok at → w < 2 ^ 32 → after ≡ put_word area at w → perform e cs (store p q f) before ≡ ok (state s (words after))
        unfolding perform
        stores {at} h small is =
            let i = found e q 33 (value f cs) at h in
            goes_on _ has (goes_on _ i.number (ap ok (keeps i.index w i.there small is)))

      pub write_sticks : (k : ℕ) → cell_at e q 35 (pos (get_or s.places q 0)) ≡ stop k → perform e cs (write p q) before ≡ stop k
      unfolding perform place
      write_sticks k h = goes_on _ has (stops _ (not_found e q 35 (pos (get_or s.places q 0)) k h))

      pub writes : {at : ℕ} {after : List ℕ} → cell_at e q 35 (pos (get_or s.places q 0)) ≡ ok at → w < 2 ^ 32 → after ≡ put_word area at w → perform e cs (write p q) before ≡ ok (state (next s) (words after))
      unfolding perform place advance
      writes {at} h small is =
          let i = found e q 35 (pos (get_or s.places q 0)) at h in
          goes_on _ has (goes_on _ i.number (ap (λ t. ok (advance q t)) (keeps i.index w i.there small is)))
