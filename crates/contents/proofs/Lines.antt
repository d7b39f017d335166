-- The lines of a schedule that its contents are read from.
use Rattle.std.proofs.Common.{◌≡◌, ◌+◌, ◌∙◌, List, [], Option, Some, None, unwrap_or, Result, Ok, Err, ap, drop, get_or, refl, sym, ℕ}
use Rattle.std.proofs.Math.Nat.{add-zero}
use Rattle.std.proofs.Math.Seq.{drop-drop, get_or-drop}
use Rattle.std.specs.Result.{result_unwrap_or}
use Rattle.rules.specs.Sizes.{batch_most}
use Rattle.tray.specs.Trays.{tray_of, tray_with}
use Rattle.text.specs.Lines.{lines_of}
use Rattle.text.specs.Lists.{listed_as}
use Rattle.entries.specs.Places.{none_in}
use Rattle.entries.specs.declared.places.Places.{Places}
use Rattle.header.specs.Header.{headed_of, header_size, no_header}
use Rattle.header.specs.declared.BadLine.{BadLine}
use Rattle.header.specs.declared.Header.{Header}
use Rattle.contents.specs.Contents.{header_as, header_of, items_in, sends_in, sends_of}

-- the header that was read
pub header_is : (s : List ℕ) (h : Header) → headed_of (lines_of s) ≡ Ok h → header_of s ≡ h
unfolding header_as
header_is s h e = ap header_as e

pub header_or : (r : Result Header BadLine) → result_unwrap_or r no_header ≡ header_as r
unfolding header_as
header_or (Ok h) = refl
header_or (Err b) = refl

-- the sends follow the header and the tray lines
pub sends_after : (s t u : List ℕ) → lines_of t ≡ drop header_size (lines_of s) → lines_of u ≡ drop (header_of s).n (lines_of t) → sends_of s ≡ sends_in (lines_of u)
unfolding sends_of
sends_after s t u a b = ap sends_in (sym (b ∙ ap (drop (header_of s).n) a ∙ drop-drop (header_of s).n header_size (lines_of s)))

-- tray line i, counted from 0
pub tray_line : (s t u l : List ℕ) (i : ℕ) → lines_of t ≡ drop header_size (lines_of s) → lines_of u ≡ drop i (lines_of t) → l ≡ get_or (lines_of u) 0 []
    → l ≡ get_or (lines_of s) (header_size + i) []
tray_line s t u l i a b e =
    e ∙ ap (λ (ls : List (List ℕ)). get_or ls 0 []) (b ∙ ap (drop i) a ∙ drop-drop i header_size (lines_of s))
    ∙ get_or-drop (header_size + i) (lines_of s) 0 [] ∙ ap (λ (j : ℕ). get_or (lines_of s) j []) (add-zero (header_size + i))

-- a list that was read, as a tray; an empty one where there is none
pub tray_is : (o : Option (List ℕ)) (places : Places batch_most) → places ≡ unwrap_or (listed_as o) (none_in batch_most)
    → tray_with places.count places.entries ≡ tray_of (items_in o)
unfolding listed_as items_in
tray_is o places e = ap (λ (p : Places batch_most). tray_with p.count p.entries) e ∙ go o
  where
    go : (x : Option (List ℕ)) → tray_with (unwrap_or (listed_as x) (none_in batch_most)).count (unwrap_or (listed_as x) (none_in batch_most)).entries
        ≡ tray_of (items_in x)
    go None = refl
    go (Some xs) = refl
