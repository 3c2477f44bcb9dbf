use Rattle.gworld.specs.Worlds.{tools_of}
use Rattle.gworld.proofs.Promised.{promised}
use Rattle.gworld.proofs.Sessions.{WorldLaws}
use Rattle.gworld.proofs.laws.steps_keep.Goals as goal

pub returns : goal.returns
returns g c = λ k.
    let laws : WorldLaws (tools_of (g.P.Packer.packs k) (g.P.Packer.pack_fails k) g.I.KeepingIndexer.indexes
    g.I.KeepingIndexer.index_fails) = record {
      keeps = c.growing_keeps.ensures;
      goes_on = c.growing_goes_on.ensures;
      holds = c.keeping_holds.ensures;
      connected = c.connected_stays_connected.ensures;
      reaches = c.keeping_reaches.ensures;
      has_all = c.keeping_has_all.ensures;
      agreeing = c.agreeing_stays.ensures;
      coming = c.coming_grows.ensures;
      begins = c.began_begins.ensures;
      stays = c.began_stays.ensures;
      haves = c.haves_are_held.ensures.connected;
      wants = c.wants_are_exact.ensures;
      asks = c.asks_are_of_lines.ensures;
      waits = c.open_is_the_sessions.ensures;
      commons = c.commons_are_haves.ensures.replies;
      grows = c.taking_only_grows.ensures;
      refusals = c.refusals_change_nothing.ensures;
      servers = c.servers_grow.ensures;
      reading = record {
        spells = c.canonical_spells.ensures.lines;
        begins = c.one_begins.ensures;
        refs_say = c.canonical_says-2.ensures;
        refs_once = c.one_meaning.ensures;
        refs_end = c.prefix_free.ensures.spellings;
        objects_say = c.canonical_says.ensures;
        objects_once = c.other_readings.ensures.whatever_reading;
        differ = c.replies_differ.ensures;
      };
      refs_fit = c.ls_answers_fit.ensures;
      refs_held = c.ls_answers_are_held.ensures;
      objects_fit = c.fetch_answers_fit.ensures k;
      acks = c.acks_are_common.ensures k;
      enough = c.packs_are_enough.ensures k;
      small = λ list pack may. may.few;
      serves = c.held_wants_are_served.ensures k;
    } in
    promised laws
    (record {
      exactly = c.reads_exactly.ensures;
      any_limit = c.other_readings.ensures.any_limit;
      over_limit = c.other_readings.ensures.over_limit;
      fit = c.agreeing_entries_fit.ensures;
      refs_exactly = c.reads_exactly-2.ensures;
    }) c.held_is_not_missing.ensures c.rounds_are_few.ensures
