pub mod CodeSession
