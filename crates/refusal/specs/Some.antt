-- A contract behind a boundary that hands out numbers: there is an answer that meets the call's own contract, and it is what is left.
-- Definitions only.

-- an answer that meets a contract, and that is left behind
pub record Some {A : Type 0} (meets left : A → Type 0) : Type 0 where
  pub answer : A
  pub met : meets answer
  pub leaves : left answer
