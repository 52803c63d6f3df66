pub mod OneOrMore
