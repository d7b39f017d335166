-- The first send that breaks the rule, send by send: the answer for the whole is the answer for those that are left.
use Prim.Native.Nat.{ℕ, zero, suc, ◌+◌, ◌≤◌, ◌<◌}
use mathlib.Core.Path.{◌≡◌, sym, ap, ap₂, ◌∙◌}
use mathlib.Core.Bool.{Bool, true, false, cond}
use mathlib.Core.List.{List}
use native.Mathlib.Numerals.{add-one}
use native.Mathlib.Omega.{arith}
use lib.ListN.{length, drop, drop_of_length-le}
use lib.Seq.{drop-cons}
use Rattle.agreement.specs.Hall.{Hall}
use Rattle.agreement.specs.Rule.{breaks_rule}
use Rattle.header.specs.Header.{header_size}
use Rattle.schedule.specs.Forms.{form_of}
use Rattle.header.specs.declared.Header.{Header}
use Rattle.schedule.specs.declared.Send.{Send as Numbered}
use Rattle.contents.specs.Contents.{sends_of, sending_at, message_for}
use Rattle.shown.specs.Shown.{breaks}
use Rattle.standing.specs.Standing.{standing}
use Rattle.standing.specs.Run.{hall_of}
use Rattle.played.specs.Playing.{breach_from, breach, played_to}
use Rattle.std.proofs.Common.{Some, Ok, Err}
use Rattle.standing.specs.declared.Standing.{Standing}
use Rattle.contents.proofs.Good.{good_header}
use Rattle.played.proofs.Sends.{send_at, sent_numbers, send_fits, send_message}
use Rattle.played.proofs.Ruled.{rule_by_states}

module _ (s : List ℕ) (h : Header) where
  abbrev hall : Hall
  hall = hall_of s h.n h.f

  -- of the sends from the k-th on
  abbrev pub left : ℕ → ℕ
  left k = breach_from hall (header_size + 1 + h.n + k) (drop k (sends_of s))

  pub at_first : form_of s ≡ Ok h → breach s h.n h.f ≡ left 0
  at_first form = ap (λ (x : Header). breach_from hall (header_size + 1 + x.n + 0) (sends_of s)) (good_header s h form)

  module _ (k : ℕ) (more : k < length (sends_of s)) (t : Bool) (e : t ≡ breaks_rule hall (send_at (sends_of s) k).round (send_at (sends_of s) k).message) where
    next : left k ≡ cond t (header_size + 1 + h.n + k) (breach_from hall (header_size + 1 + h.n + k + 1) (drop (suc k) (sends_of s)))
    unfolding breach_from
    next =
        ap (breach_from hall (header_size + 1 + h.n + k)) (drop-cons (sends_of s) k _ more)
        ∙ ap (λ (b : Bool). cond b (header_size + 1 + h.n + k) (breach_from hall (header_size + 1 + h.n + k + 1) (drop (suc k) (sends_of s)))) (sym e)

    pub breaks_here : t ≡ true → left k ≡ header_size + 1 + h.n + k
    breaks_here q = next ∙ simp q

    pub breaks_later : t ≡ false → left k ≡ left (k + 1)
    breaks_later q =
        next ∙ simp q (ap₂ (λ (a b : ℕ). breach_from hall a (drop b (sends_of s))) (omega arith) (sym (add-one k)))

  pub none_left : (k : ℕ) → length (sends_of s) ≤ k → left k ≡ 0
  unfolding breach_from
  none_left k l = ap (breach_from hall (header_size + 1 + h.n + k)) (drop_of_length-le (sends_of s) {i = k} l)

  -- the answer of the rule by states is the rule's
  pub rule_told : (form : form_of s ≡ Ok h) (k : ℕ) → k < length (sends_of s) → (y : Numbered) → Some y ≡ sending_at (sends_of s) k → (here : Standing)
      → here ≡ standing hall y.round → (t : Bool) → t ≡ breaks h.n h.faulty here.nodes (message_for s y.round y.from y.to)
      → t ≡ breaks_rule hall (send_at (sends_of s) k).round (send_at (sends_of s) k).message
  rule_told form k l y e here stands t told =
      let q = sent_numbers (sends_of s) k y l e in
      let x = send_at (sends_of s) k in
      let fit = send_fits s h form k l in
      let m : message_for s y.round y.from y.to ≡ x.message =
      ap (λ (a : ℕ). message_for s a y.from y.to) q.0 ∙ ap₂ (λ (a b : ℕ). message_for s x.round a b) q.1 q.2 ∙ send_message s h form k l in
      told ∙ ap (breaks h.n h.faulty here.nodes) m
      ∙ rule_by_states s h form here x.round (stands ∙ ap (standing hall) q.0) fit.round_least fit.round_most x.message

  -- ---- what is answered

  pub is_breach : (line : ℕ) → breach s h.n h.f ≡ line → 1 ≤ line → Err (record { 0 = line }) ≡ played_to hall (breach s h.n h.f)
  unfolding played_to
  is_breach zero e l = absurd (omega arith)
  is_breach (suc k) e l = ap (played_to hall) (sym e)

  pub is_played : (last : Standing) → breach s h.n h.f ≡ 0 → last ≡ standing hall (h.f + 2) → Ok last.nodes ≡ played_to hall (breach s h.n h.f)
  unfolding played_to
  is_played last e q =
      let k : h.f + 2 ≡ suc (suc h.f) = omega arith in
      ap (λ (x : Standing). Ok x.nodes) (q ∙ ap (standing hall) k) ∙ ap (played_to hall) (sym e)
