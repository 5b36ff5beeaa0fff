-- What is written into an output.
use Rattle.std.specs.Prelude.{◌≡◌, ℕ, ◌+◌, ◌<◌, ◌≤◌, List, ◌++◌, length, take, drop, Ok, Err, Result}
use Rattle.text.specs.declared.fault.OutputFault.{OutputFault}
use Rattle.text.specs.declared.fault.OutputFault.TheVariants.{Short}

-- The piece was written behind the first at bytes, up to end; what stands past end stays.
pub record Appended (at : ℕ) (piece old : List ℕ) (end : ℕ) (new : List ℕ) : Type 0 where
  pub end_is : end ≡ at + length piece
  pub front : take end new ≡ take at old ++ piece
  pub rest : drop end new ≡ drop end old

-- A short output is refused as 15, with the number of bytes wanted as its place.
abbrev pub number_of : OutputFault → ℕ
number_of (Short wanted) = 15

abbrev pub place_of : OutputFault → ℕ
place_of (Short wanted) = wanted

-- The text stands at the front of the output, n is its length, and no other byte has changed.
pub record Written (text old : List ℕ) (n : ℕ) (new : List ℕ) : Type 0 where
  pub count : n ≡ length text
  pub bytes : new ≡ text ++ drop (length text) old

-- A call that wants a number of bytes writes the text and replies its length. An output with fewer bytes is refused and stays as it was.
abbrev pub Writes : ℕ → List ℕ → List ℕ → Result ℕ OutputFault → List ℕ → Type 0
Writes wanted text old (Ok n) new = (wanted ≤ length old) × Written text old n new
Writes wanted text old (Err fault) new = (length old < wanted) × (fault ≡ Short wanted) × (new ≡ old)
