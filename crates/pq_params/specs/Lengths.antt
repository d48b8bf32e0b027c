-- Document 01's section on buffers: how long each buffer of an index is.
use Rattle.std.specs.Prelude.{ℕ, ◌+◌, ◌*◌, cond}
use Rattle.pq_params.specs.declared.Shape.{Shape}
use Rattle.pq_params.specs.declared.CelledShape.{CelledShape}
use Rattle.pq_params.specs.declared.PlainLengths.{PlainLengths}
use Rattle.pq_params.specs.declared.CelledLengths.{CelledLengths}
use Rattle.pq_params.specs.Bounds.{bad_plain, bad_celled, too_many_rows, centers_of}
use Rattle.pq_params.specs.Ranges.{covered_of}

-- the sub-centres of one cell: K·C
abbrev pub subs_long : Shape → ℕ
subs_long s = centers_of s.bits * covered_of s.d s.nsub

-- a table: n_sub·K
abbrev pub table_long : Shape → ℕ
table_long s = s.nsub * centers_of s.bits

-- ---- a plain index

abbrev pub plain_of : Shape → ℕ → PlainLengths
plain_of s n = record { number = 0; rows = n * s.d; subs = subs_long s; codes = n * s.nsub; work = n + 1024; table = table_long s }

abbrev pub refused_plain : ℕ → PlainLengths
refused_plain number = record { number = number; rows = 0; subs = 0; codes = 0; work = 0; table = 0 }

-- the lengths, where tests 1 and 3 let the numbers pass
unfoldable pub plain_lengths : Shape → ℕ → PlainLengths
plain_lengths s n = cond (bad_plain s) (refused_plain 1) (cond (too_many_rows n) (refused_plain 3) (plain_of s n))

-- ---- a celled index

abbrev pub celled_of : CelledShape → ℕ → CelledLengths
celled_of s n = record {
  number = 0;
  rows = n * s.plain.d;
  coarse = s.cells * s.plain.d;
  starts = s.cells + 1;
  members = n;
  subs = s.cells * subs_long s.plain;
  codes = n * s.plain.nsub;
  work = n + 1024;
  table = table_long s.plain;
}

abbrev pub refused_celled : ℕ → CelledLengths
refused_celled number = record { number = number; rows = 0; coarse = 0; starts = 0; members = 0; subs = 0; codes = 0; work = 0; table = 0 }

unfoldable pub celled_lengths : CelledShape → ℕ → CelledLengths
celled_lengths s n = cond (bad_celled s) (refused_celled 1) (cond (too_many_rows n) (refused_celled 3) (celled_of s n))
