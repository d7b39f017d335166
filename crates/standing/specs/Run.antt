-- The schedule's own run: every outbox is carried whole, and what faulty nodes send is its sends.
use Rattle.std.specs.Prelude.{ℕ, ◌+◌, ◌≤◌, List, [], ◌≡◌, Ok}
use Rattle.tray.specs.Trays.{tray_of}
use Rattle.agreement.specs.Hall.{Hall}
use Rattle.agreement.specs.Carried.{carried_hall}
use Rattle.schedule.specs.Forms.{form_of}
use Rattle.header.specs.declared.Header.{Header}
use Rattle.contents.specs.Contents.{is_faulty, entries_of_tray, message_for}
use Rattle.standing.specs.Standing.{standing}
use Rattle.standing.specs.declared.Standing.{Standing}

-- the run of a schedule; "Old logs are empty."
abbrev pub hall_of : (s : List ℕ) (n f : ℕ) → Hall
hall_of s n f = carried_hall n f (is_faulty s) (λ i. tray_of (entries_of_tray s i)) (λ r j i. message_for s r j i) []

-- s has a good form, which starts with this header, and here its run stands before the round that is next
pub record Reached (s : List ℕ) (h : Header) (here : Standing) : Type 0 where
  pub form : form_of s ≡ Ok h
  pub stands : here ≡ standing (hall_of s h.n h.f) here.next

-- what `advance_to` promises: where the run stands before this round, if it is the next or a later one, up to f + 2
abbrev pub Advances : (s : List ℕ) (h : Header) (here : Standing) (round : ℕ) (answer : Standing) → Type 0
Advances s h here round answer = Reached s h here → here.next ≤ round → round ≤ h.f + 2 → answer ≡ standing (hall_of s h.n h.f) round
