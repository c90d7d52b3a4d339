-- What a request of a batch comes to: the answer word and the output area afterwards, as the calls of the C boundary promise.
use Rattle.std.specs.Prelude.{ℕ, zero, suc, ◌-◌, ◌/◌, ◌%◌, ◌^◌, ◌≡◌, List, [], ◌∷◌}
use Rattle.planner.specs.Promises.{CheckCall, ArrayRunCall, StreamRunCall, LayOutCall, PutBackCall}

-- a call that is none
abbrev pub NoCall : (before : List ℕ) → (word : ℕ) → (after : List ℕ) → Type 0
NoCall before word after = (word ≡ 2 ^ 64 - 1) × (after ≡ before)

-- 1 check, 2 array run, 3 stream run, 4 lay out, 5 put back
unfoldable pub Replies : (call : ℕ) → (file input before : List ℕ) → (word : ℕ) → (after : List ℕ) → Type 0
Replies zero file input before word after = NoCall before word after
Replies (suc zero) file input before word after = CheckCall file word × (after ≡ before)
Replies (suc (suc zero)) file input before word after = ArrayRunCall file input before word after
Replies (suc (suc (suc zero))) file input before word after = StreamRunCall file input before word after
Replies (suc (suc (suc (suc zero)))) file input before word after = LayOutCall file input before word after
Replies (suc (suc (suc (suc (suc zero))))) file input before word after = PutBackCall file input before word after
Replies (suc (suc (suc (suc (suc (suc call)))))) file input before word after = NoCall before word after

-- the bytes of a word, low byte first
unfoldable pub eight : ℕ → List ℕ
eight w =
    w % 256 ∷ w / 2 ^ 8 % 256 ∷ w / 2 ^ 16 % 256 ∷ w / 2 ^ 24 % 256 ∷ w / 2 ^ 32 % 256 ∷ w / 2 ^ 40 % 256 ∷ w / 2 ^ 48 % 256 ∷ w / 2 ^ 56 % 256 ∷ []
