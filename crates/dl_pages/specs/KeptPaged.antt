-- How the fields of a list hold it whose pages stand in sections.
use Rattle.std.specs.Prelude.{ℕ, Bool, List}
use Rattle.dl_pages.specs.Pages.{PageItems, AreNested}
use Rattle.dl_pages.specs.KeptPages.{IsKept}

module _ {T : Type 0} where
  -- `places` says which pages stand in a section that is owned
  pub record IsKeptPaged (pages : List (PageItems T)) (places : List Bool) (len spare : ℕ) : Type 0 where
    pub kept : IsKept pages len spare
    pub nested : AreNested pages places
