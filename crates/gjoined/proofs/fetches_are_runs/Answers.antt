use Rattle.ggrammar.specs.Limits.{profile}
use Rattle.ghello.specs.Adverts as advert
use Rattle.glsreply.specs.LsReplies as refs
use Rattle.grequest.specs.Requests.{judge}
use Rattle.gworld.specs.Worlds.{tools_of}
use Rattle.gjoined.proofs.Serving.{JoinedLaws}
use Rattle.gjoined.proofs.Whole.{any_fetch_is_a_run, fetches_are_runs}
use Rattle.gjoined.proofs.fetches_are_runs.Goals as goal

pub returns : goal.returns
returns g c = λ k.
    let laws : JoinedLaws (tools_of (g.P.Packer.packs k) (g.P.Packer.pack_fails k) g.I.KeepingIndexer.indexes
    g.I.KeepingIndexer.index_fails) = record {
      rounds = record {
        requests = record {
          spells = c.canonical_spells.ensures.lines;
          says = λ format. c.canonical_says-2.ensures profile format;
          once = λ format. c.one_meaning.ensures.one profile format;
          ends = λ format. (c.messages_are_read.ensures (judge profile format)).no_other;
        };
        replies = record {
          reading = record {
            spells = c.canonical_spells.ensures.lines;
            begins = c.one_begins.ensures;
            refs_say = c.canonical_says-3.ensures;
            refs_once = c.one_meaning-2.ensures;
            refs_end = c.prefix_free.ensures.spellings;
            objects_say = c.canonical_says-4.ensures;
            objects_once = c.other_readings.ensures.whatever_reading;
            differ = c.replies_differ.ensures;
          };
          refs_end = λ format ends. (c.messages_are_read.ensures (refs.judge format ends)).no_other;
          refs_fit = c.ls_answers_fit.ensures;
          objects_fit = c.fetch_answers_fit.ensures k;
          small = λ list pack may. may.few;
          sessions = record {
            once = c.distinct_are_once.ensures;
            places = c.positions_are_nodes.ensures;
            formats = c.ids_have_one_format.ensures;
            exact = c.offers_are_exact.ensures;
          };
        };
        split = c.spellings_join.ensures.split;
        joins = c.canonical_spells.ensures.joins;
        ends = c.ends_stay_connected.ensures k;
      };
      advert_says = c.canonical_says.ensures.advert;
      advert_ends = (c.messages_are_read.ensures advert.judge).no_other;
      welcome = c.adverts_welcome.ensures;
      sound = c.runs_keep_promises.ensures.begins k;
      keeps = c.runs_keep_promises.ensures.keeps k;
      four = c.has_four_bytes.ensures;
      join = c.spellings_join.ensures.join;
      ids = record { formats = c.ids_have_one_format.ensures; spelt = c.ids_have_texts.ensures };
      errors = record { spells = c.canonical_spells.ensures.line; reading = c.one_reading.ensures };
    } in
    record { whole = fetches_are_runs laws; any = any_fetch_is_a_run laws }
