-- Trails: what is seen of calls from outside, whoever made them: each call that was not refused, with what it said and the rows that
-- it left. Definitions only.
use Rattle.std.specs.Prelude.{List, [], ◌∷◌, ℕ}
use Rattle.std.proofs.Math.Option.{Option, none, some}
use Rattle.std.specs.Prelude.{Result}
use Rattle.peer_state.specs.declared.ingress.NotReserved.{NotReserved}
use Rattle.peer_state.specs.declared.ingress.FiberIngressBudget.{FiberIngressBudget}
use Rattle.pubkey.specs.declared.Pubkey.{Pubkey}
use Rattle.refusal.specs.Refusal.{Said, gives, refused}
use Rattle.peer_rows.specs.Rows.{Peers}

-- a call that can change rows, by its peer and its time; admit with what the ceiling says to it
pub data CoreCall : Type 0 where
  admit : (peer : Pubkey) (size now : ℕ) (reservation : Result FiberIngressBudget NotReserved) → CoreCall
  record_invalid : (peer : Pubkey) (now : ℕ) → CoreCall
  is_banned : (peer : Pubkey) (now : ℕ) → CoreCall
  on_disconnected : (peer : Pubkey) (now : ℕ) → CoreCall

-- a call, what it said, and the rows that it left
pub record Event : Type 0 where
  pub call : CoreCall
  pub said : Said
  pub rows : Peers

-- one call more on a trail, the newest first; a refused one changed nothing and is left out
abbrev pub seen : CoreCall → Said → Peers → List Event → List Event
seen call (gives xs) rs es = record { call = call; said = gives xs; rows = rs } ∷ es
seen call (refused n) rs es = es

-- the same, where there is a call
abbrev pub seen_if : Option CoreCall → Said → Peers → List Event → List Event
seen_if none said rs es = es
seen_if (some call) said rs es = seen call said rs es

-- the rows that a trail leads to, from none
abbrev pub rows_at : List Event → Peers
rows_at [] = []
rows_at (e ∷ es) = e.rows

-- the calls of a trail
unfoldable pub calls_of : List Event → List CoreCall
calls_of [] = []
calls_of (e ∷ es) = e.call ∷ calls_of es
