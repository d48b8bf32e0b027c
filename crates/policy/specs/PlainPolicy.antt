-- Demand 3 for the plain index: two searches that differ in nothing visible.
use Rattle.std.specs.Prelude.{◌≡◌, length}
use Rattle.plain_search.specs.Outcome.{SearchIn}
use Rattle.policy.specs.Sight.{CodesAlike}

-- Hidden rows may have any codes.
pub record PlainAlike (a b : SearchIn) : Type 0 where
  -- equal parameters, row count and sub-centres
  pub d : a.shape.d ≡ b.shape.d
  pub nsub : a.shape.nsub ≡ b.shape.nsub
  pub bits : a.shape.bits ≡ b.shape.bits
  pub n : a.n ≡ b.n
  pub subs : a.subs ≡ b.subs
  -- one query, mask and set of lent buffers, whose length is k
  pub query : a.query ≡ b.query
  pub mask : a.mask ≡ b.mask
  pub lent : a.lent ≡ b.lent
  -- codes of equal length, equal at visible rows
  pub codes-long : length a.codes ≡ length b.codes
  pub same_codes : CodesAlike a.n a.mask a.shape.nsub a.codes b.codes
