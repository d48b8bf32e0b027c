-- `search_nearest`: each end is that of the step that it stands in.
use Rattle.std.proofs.Common.{sym, ◌∙◌}
use Rattle.celled_search.proofs.Steps.{ranking, worked-refused, probed-listed, worked-damaged, probing, worked-probed}
use Rattle.celled_search.proofs.search_nearest.Goals as goal

pub probe-requires : goal.probe-requires
probe-requires c = ranking _ _ _ c.requires.stepping

pub returns-in-Err : goal.returns-in-Err
returns-in-Err c =
    worked-refused _ _ _ c.requires.stepping _ _ _ c.requires.cleared c.in-Err.ensures

pub probed_sound-requires : goal.probed_sound-requires
probed_sound-requires c = probed-listed _ _ _ c.requires.stepping _ c.in_default.ensures

pub returns-then-not-probed_sound : goal.returns-then-not-probed_sound
returns-then-not-probed_sound c =
    worked-damaged _ _ _ c.requires.stepping _ c.in_default.ensures _ c.requires.cleared (sym c.probed_sound.ensures ∙ c.if-not-probed_sound.true)

pub search_probed-requires : goal.search_probed-requires
search_probed-requires c = record {
  probing = probing _ _ _ c.requires.stepping _ c.in_default.ensures (sym c.probed_sound.ensures ∙ c.if-not-probed_sound.false);
  cleared = c.requires.cleared;
}

pub returns : goal.returns
returns c =
    worked-probed _ _ _ c.requires.stepping _ c.in_default.ensures (sym c.probed_sound.ensures ∙ c.if-not-probed_sound.false) _ _ c.search_probed.ensures
