-- A run as a schedule tells it: "`n`, `f`, `faulty` [..], n lines `tray` [..], lines `send` (round, from, to, message [..])". "Old logs are empty."
use Rattle.std.specs.Prelude.{ℕ, ◌+◌, ◌^◌, Bool, cond, ◌&&◌, List, [], ◌∷◌, map, eqb, get_or}
use Rattle.laws.specs.Members.{holds}
use Rattle.rules.specs.Vote.{Batch, Vote}
use Rattle.wire.specs.Message.{message_bytes}
use Rattle.tray.specs.Trays.{tray_of}
use Rattle.agreement.specs.Hall.{Hall}
use Rattle.agreement.specs.Rule.{breaks_rule}
use Rattle.agreement.specs.Carried.{carried_hall}

-- the mask of these nodes
abbrev pub mask : List ℕ → ℕ
mask [] = 0
mask (j ∷ js) = 2 ^ j + mask js

-- the vote of these witnesses
abbrev pub vote : (primary : ℕ) (witnesses : List ℕ) (batch : Batch) → Vote
vote primary witnesses batch = record { primary = primary; mask = mask witnesses; batch = batch }

-- a line `send`
pub record Send : Type 0 where
  pub round : ℕ
  pub from : ℕ
  pub to : ℕ
  pub message : List ℕ

-- with these votes as its message
abbrev pub sending : (round from to : ℕ) (votes : List Vote) → Send
sending round from to votes = record { round = round; from = from; to = to; message = message_bytes votes }

pub record Schedule : Type 0 where
  pub n : ℕ
  pub f : ℕ
  pub faulty : List ℕ
  pub trays : List Batch
  pub sends : List Send

-- what node j sends node i in round r by these lines; nothing where no line says so
abbrev pub given : List Send → (r j i : ℕ) → List ℕ
given [] r j i = []
given (s ∷ more) r j i = cond (eqb r s.round && (eqb j s.from && eqb i s.to)) s.message (given more r j i)

-- the schedule's run, carried whole
abbrev pub hall_of : Schedule → Hall
hall_of s = carried_hall s.n s.f (λ j. holds j s.faulty) (λ j. tray_of (get_or s.trays j [])) (given s.sends) []

-- of each line, whether its message breaks the rule on shown votes
abbrev pub breaks : Schedule → List Bool
breaks s = map (λ (x : Send). breaks_rule (hall_of s) x.round x.message) s.sends
