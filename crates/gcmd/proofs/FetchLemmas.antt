-- The client's repository that a file describes, and saving this repository as text.
use Rattle.std.proofs.Common.{◌≡◌, ℕ, List, All, Ok, Err, refl, sym, ap, subst, ◌∙◌}
use Rattle.std.proofs.lemmas.List.{append-nil}
use Rattle.gdag.proofs.OrderLemmas.{all_at}
use Rattle.gdag.proofs.Positions.{held_id}
use Rattle.gdag.specs.Graphs.{History, IsGraph}
use Rattle.gdag.specs.Laws.{PositionsAreNodes}
use Rattle.gdag.specs.Reach.{IsConnected, here}
use Rattle.ggraph.specs.Saving.{IsFirstOther, SaveRefuses, named_ids, ref_ids}
use Rattle.ggraph.specs.declared.fault.SaveFault.{SaveFault}
use Rattle.ggraph.specs.declared.fault.SaveFault.TheVariants.{Memory, OtherFormat}
use Rattle.gclientrepo.specs.Repos.{IsConnectedRepo, RepoState}
use Rattle.ggraph.specs.RepositoryText.{repository_text, IsLoadable}
use Rattle.ggraph.specs.declared.text.Order.TheVariants.{Any}
use Rattle.grefs.specs.RefLists.{RefList}
use Rattle.grefs.specs.declared.head.Head.{Head}
use Rattle.gclientrepo.specs.Changes.{Opens}
use Rattle.gclientrepo.specs.declared.fault.RepoFault.{RepoFault}
use Rattle.gsession.specs.declared.fault.ClientFault.TheVariants as client
use Rattle.gfetch.specs.declared.fault.FetchFault.TheVariants as fetch
use Rattle.gcmd.specs.Fetching.{NamesClient, RefusesClient, no_head}
use Rattle.gcmd.specs.declared.fault.ProgramFault.{ProgramFault}
use Rattle.gcmd.specs.declared.fault.ProgramFault.TheVariants as program

module _ {A : Type 0} where
  -- no ref of a connected repository points to an id of another object format, because the graph holds the ref's id
  none_other : PositionsAreNodes A → (repo : RepoState A) (id : List ℕ) → IsGraph repo.graph → IsConnectedRepo repo
      → ¬ (IsFirstOther repo.graph.format (named_ids repo.refs (no_head {A = A})) id)
  none_other places repo id graph whole other =
      let ids : named_ids repo.refs (no_head {A = A}) ≡ ref_ids repo.refs = append-nil (ref_ids repo.refs) in
      let full : IsConnected repo.graph.entries id =
      all_at (IsConnected repo.graph.entries) other.front id other.rest
      (subst (All (IsConnected repo.graph.entries)) (sym ids ∙ other.parts) whole.connected_refs) in
      other.other (held_id places repo.graph graph id (full id here))

  -- saving a client's repository fails only for lack of memory
  pub only_memory : PositionsAreNodes A → (repo : RepoState A) (fault : SaveFault) → IsGraph repo.graph → IsConnectedRepo repo
      → SaveRefuses repo.graph.format repo.refs (no_head {A = A}) fault → fault ≡ Memory
  only_memory places repo Memory graph whole refused = refl
  only_memory places repo (OtherFormat id) graph whole refused = absurd (none_other places repo id graph whole refused)

-- ---- the file

module _ {A : Type 0} (file : List ℕ) (graph : History A) (refs : RefList) (head : Head A)
    (text : file ≡ repository_text graph refs head) (loadable : IsLoadable Any graph refs head)
  where
    -- if the repository opens, the file is the text of the client's repository
    pub names_client : (repo : RepoState A) → head ≡ no_head → Opens graph refs (Ok repo) → IsConnectedRepo repo → NamesClient file repo
    names_client repo none opens whole = record {
      text =
          text ∙ ap (λ (h : Head A). repository_text graph refs h) none
          ∙ ap (λ (g : History A). repository_text g refs (no_head {A = A})) (sym opens.0)
          ∙ ap (λ (r : RefList). repository_text repo.graph r (no_head {A = A})) (sym opens.1);
      loadable =
          subst (λ (r : RefList). IsLoadable Any repo.graph r (no_head {A = A})) (sym opens.1)
          (subst (λ (g : History A). IsLoadable Any g refs (no_head {A = A})) (sym opens.0)
          (subst (λ (h : Head A). IsLoadable Any graph refs h) none loadable));
      whole = whole;
    }

    -- if opening the repository fails, the client's file is rejected
    pub refuses_unconnected : (cause : RepoFault A) (fault : ProgramFault A) → head ≡ no_head → Opens graph refs (Err cause)
        → fault ≡ program.Fetch (fetch.Client (client.Repo cause)) → RefusesClient file fault
    refuses_unconnected cause fault none opens same =
        subst (RefusesClient file) (sym same)
        (record {
          graph = graph;
          refs = refs;
          text = text ∙ ap (λ (h : Head A). repository_text graph refs h) none;
          loadable = subst (λ (h : Head A). IsLoadable Any graph refs h) none loadable;
          cause = opens;
        })
