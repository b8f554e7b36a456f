-- What is said of a public entry. The check reads a contract from the code: `Asked` is what the `requires` asks of what is lent and given, `Learnt`
-- what the `ensures` says of them, of the answer and of what was lent as it is later, and `statement` that the code meets both, which this
-- logic has only of code that ends.
-- Assumes nothing.

-- `says` is the promise over which the demands are stated
pub record Entry {A B R L : Type 0} (asked : A → B → Type 0) (learnt : A → B → R → L → Type 0) (statement : Type 1 → Type 2) (says : B → R → L → Type 0) : Type 2 where
  -- it takes every input: one that gets a `requires` fails here
  pub takes : (lent : A) (given : B) → asked lent given
  -- it ends, and meets its contract
  pub ends : {M : Type 1} → statement M
  -- and its contract says so much: a weaker `ensures` fails here
  pub tells : (lent : A) (given : B) (r : R) (later : L) → learnt lent given r later → says given r later
