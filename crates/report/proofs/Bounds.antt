-- A report has no more bytes than its bound: a log that is made on an empty one has 256 entries at most, an entry 22 bytes and a comma.
use Prim.Native.Nat.{ℕ, zero, suc, ◌*◌, ◌≤◌, ◌<◌}
use mathlib.Core.Path.{◌≡◌, refl, ap}
use mathlib.Core.Logic.{⊎_elim, inl, inr}
use mathlib.Core.Bool.{Bool, true, false, cond}
use mathlib.Core.List.{List, [], ◌∷◌, ◌++◌}
use native.Mathlib.Numerals.{add-one}
use native.Mathlib.Omega.{arith}
use lib.ListN.{length, get_or, length-append, get_or-eq_default}
use Rattle.laws.specs.Members.{In}
use Rattle.laws.proofs.Members.{in_either, at_in}
use Rattle.laws.proofs.Order.{lt_or_ge}
use Rattle.rules.specs.Sizes.{nodes_most}
use Rattle.rules.specs.Step.{gather}
use Rattle.entries.specs.Bytes.{AreEntries}
use Rattle.closing.specs.Gather.{decided_most}
use Rattle.node.specs.declared.Node.{Node}
use Rattle.print.specs.Texts.{decimal_of, list_text, line_text}
use Rattle.print.specs.declared.Items.TheVariants.{Nodes, Entries}
use Rattle.print.proofs.Lengths.{decimal_bound, line_length, entries_most, nodes_most_lem}
use Rattle.header.specs.Keys.{nodes_key, faults_key}
use Rattle.outcome.specs.Logs.{made_log}
use Rattle.outcome.proofs.Made.{log_most_lem}
use Rattle.report.specs.Lines.{lines_text, node_key, log_key, signers_key, sizes_lines, node_lines, all_lines, nodes_that, signers_at}
use Rattle.report.specs.Report.{report_of, text_most}
use Rattle.report.proofs.Printing.{lines_append, node_after_lem, no_nodes_lem}

-- ---- the lines of a node

pub log_text_most : (log : List ℕ) → AreEntries log → length log ≤ decided_most → length (list_text Entries log) ≤ 5888
log_text_most log h l = omega (arith, entries_most log h)

pub that_most : (t : ℕ → Bool) (n : ℕ) → length (nodes_that t n) ≤ n
unfolding nodes_that gather
that_most t zero = omega arith
that_most t (suc n) = omega (arith, length-append (nodes_that t n) (cond (t n) (n ∷ []) []), one (t n), that_most t n)
  where
    one : (b : Bool) → length (cond b (n ∷ []) []) ≤ 1
    one true = omega arith
    one false = omega arith

that_below : (t : ℕ → Bool) (n x : ℕ) → In x (nodes_that t n) → x < n
unfolding nodes_that gather
that_below t zero x i = elim i [ ]
that_below t (suc n) x i = ⊎_elim (λ h. omega (arith, that_below t n x h)) (λ h. one (t n) h) (in_either x (nodes_that t n) (cond (t n) (n ∷ []) []) i)
  where
    one : (b : Bool) → In x (cond b (n ∷ []) []) → x < suc n
    one true (inl e) = omega arith
    one true (inr h) = elim h [ ]
    one false h = elim h [ ]

that_small : (t : ℕ → Bool) (n : ℕ) → n ≤ nodes_most → (k : ℕ) → get_or (nodes_that t n) k 0 < 100
that_small t n l k =
    ⊎_elim (λ h. omega (arith, that_below t n (get_or (nodes_that t n) k 0) (at_in (nodes_that t n) k 0 h)))
    (λ h. omega (arith, get_or-eq_default (nodes_that t n) 0 {n = k} h)) (lt_or_ge k (length (nodes_that t n)))

pub signers_text_most : (t : ℕ → Bool) (n : ℕ) → n ≤ nodes_most → length (list_text Nodes (nodes_that t n)) ≤ 48
signers_text_most t n l = omega (arith, nodes_most_lem (nodes_that t n) (that_small t n l), that_most t n)

node_most : (i : ℕ) (log signers : List ℕ) → i < nodes_most → length (list_text Entries log) ≤ 5888 → length (list_text Nodes signers) ≤ 48
    → length (lines_text (node_lines i log signers)) ≤ 6000
unfolding lines_text
node_most i log signers l e s =
    let a : List ℕ = line_text node_key (decimal_of i) in
    let b : List ℕ = line_text log_key (list_text Entries log) in
    let d : List ℕ = line_text signers_key (list_text Nodes signers) in
    omega (
      arith,
      length-append a (b ++ (d ++ [])),
      length-append b (d ++ []),
      length-append d [],
      line_length node_key (decimal_of i),
      decimal_bound 1 i (omega arith),
      line_length log_key (list_text Entries log),
      line_length signers_key (list_text Nodes signers),
      e,
      s,
    )

all_most : (t : ℕ → Bool) (log signers : ℕ → List ℕ) (n : ℕ) → n ≤ nodes_most
    → ((i : ℕ) → i < n → t i ≡ false → (length (list_text Entries (log i)) ≤ 5888) × (length (list_text Nodes (signers i)) ≤ 48))
    → length (lines_text (all_lines t log signers n)) ≤ 6000 * n
unfolding lines_text
all_most t log signers zero l h = omega (arith, ap length (no_nodes_lem t log signers))
all_most t log signers (suc n) l h =
    omega (
      arith,
      ap length (node_after_lem t log signers n),
      ap (λ (k : ℕ). length (lines_text (all_lines t log signers k))) (add-one n),
      length-append (lines_text (all_lines t log signers n)) (lines_text (cond (t n) [] (node_lines n (log n) (signers n)))),
      all_most t log signers n (omega arith) (λ i m f. h i (omega arith) f),
      one (t n) refl,
    )
  where
    one : (b : Bool) → t n ≡ b → length (lines_text (cond b [] (node_lines n (log n) (signers n)))) ≤ 6000
    one true p = omega arith
    one false p = let q = h n (omega arith) p in node_most n (log n) (signers n) (omega arith) q.0 q.1

-- ---- the whole text

sizes_most : (n f : ℕ) → n ≤ nodes_most → f ≤ nodes_most → length (lines_text (sizes_lines n f)) ≤ 10
unfolding lines_text
sizes_most n f l m =
    let a : List ℕ = line_text nodes_key (decimal_of n) in
    let b : List ℕ = line_text faults_key (decimal_of f) in
    omega (
      arith,
      length-append a (b ++ []),
      length-append b [],
      line_length nodes_key (decimal_of n),
      line_length faults_key (decimal_of f),
      decimal_bound 1 n (omega arith),
      decimal_bound 1 f (omega arith),
    )

pub report_most : (n f : ℕ) (t : ℕ → Bool) (node : ℕ → Node) → n ≤ nodes_most → f ≤ nodes_most → ((i : ℕ) → i < n → t i ≡ false → AreEntries (made_log (node i)))
    → length (report_of n f t node) ≤ text_most
report_most n f t node l m h =
    let log : ℕ → List ℕ = λ i. made_log (node i) in
    let nodes = all_most t log (signers_at n f t log) n l (λ i k p. (log_text_most (made_log (node i)) (h i k p) (log_most_lem (node i)), signers_text_most _ n l)) in
    omega (
      arith,
      ap length (lines_append (sizes_lines n f) (all_lines t log (signers_at n f t log) n)),
      length-append (lines_text (sizes_lines n f)) (lines_text (all_lines t log (signers_at n f t log) n)),
      sizes_most n f l m,
      nodes,
    )
