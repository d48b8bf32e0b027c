-- What the examples of a search and of a whole check compute by, so that they hold by `refl`; and the floats that they have in common.
use lib.Ieee.{Float, binary32, of_bits, add, sub, mul, lt, eq}
use Rattle.lists.specs.Lists.{part, tab, join}
use Rattle.lists.specs.Tests.{every, count, keep, rising}
use Rattle.metrics.specs.Distance.{sum_to, squared}
use Rattle.neighbor.specs.Neighbor.{comes_before, insert_by, insert_all}
use Rattle.pq_params.specs.Ranges.{width_of, begin_of}
use Rattle.pq_params.specs.Refusals.{any_not_finite, search_tests, check_tests}
use Rattle.cell_walk.specs.Candidates.{cell_finite, candidates}
use Rattle.cell_walk.specs.Results.{SearchOut}
use Rattle.celled_lists.specs.Lists.{starts_sound, list_sound}
use Rattle.celled_check.specs.Check.{CheckIn, CheckOut, index_sound, check_outcome}
use Rattle.celled_probe.specs.Probe.{finite_cells, nearest_cells}
use Rattle.probed_cells.specs.Search.{probed_sound, probed_finite, all_candidates}
use Rattle.plain_search.specs.Outcome as Plain
use Rattle.celled_search.specs.Outcome as Celled

unfoldable pub plain_searches : Plain.SearchIn → SearchOut
unfolding Plain.search_outcome Plain.search_refusal Plain.search_worked search_tests cell_finite candidates any_not_finite width_of begin_of comes_before insert_by insert_all squared sum_to tab every keep of_bits add sub mul lt eq
plain_searches i = Plain.search_outcome i

unfoldable pub celled_searches : Celled.SearchIn → SearchOut
unfolding plain_searches Celled.search_outcome Celled.search_refusal Celled.search_worked starts_sound list_sound finite_cells nearest_cells probed_sound probed_finite all_candidates part join rising
celled_searches i = Celled.search_outcome i

unfoldable pub checks : CheckIn → CheckOut
unfolding check_outcome check_tests index_sound starts_sound list_sound part every rising count tab begin_of width_of
checks i = check_outcome i

-- 1, −1, 4 and 16, by their bits
abbrev pub one : Float
one = of_bits binary32 0x3f80_0000

abbrev pub minus_one : Float
minus_one = of_bits binary32 0xbf80_0000

abbrev pub four : Float
four = of_bits binary32 0x4080_0000

abbrev pub sixteen : Float
sixteen = of_bits binary32 0x4180_0000
